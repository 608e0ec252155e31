-- What was read may be written: its values are of their types.
use Rattle.std.proofs.Common.{◌≡◌, ℕ, ◌-◌, IsTrue, ◌==◌, ◌<◌, ◌≤◌, ◌^◌, Bool, true, false, List, [], ◌∷◌, length, slice_index, Option, Some, None, IfSome, sym, subst, arith}
use Rattle.std.specs.Int.{w16, w32, from_be_bytes}
use Rattle.lw_stamp.specs.declared.stamp.Stamp.{Stamp}
use Rattle.lw_join.specs.declared.last.Last.{Last}
use Rattle.lw_reg.specs.declared.addr.Addr.{Addr}
use Rattle.lw_reg.specs.declared.path.Path.{Path}
use Rattle.lw_reg.specs.declared.slot.Slot.{Slot}
use Rattle.std.specs.List.{AllByRecursion}
use Rattle.lw_reg.specs.Attribute.{is_attribute_name, IsAttribute}
use Rattle.lw_reg.specs.Addr.{IsAddr}
use Rattle.lw_reg.specs.Fields.{told_fields}
use Rattle.lw_reg.specs.BodyOrGone.{KeepsAttributes}
use Rattle.lw_delta.specs.declared.slots.LentSlot.{LentSlot}
use Rattle.lw_delta.specs.inner.Lent.{Holds}
use Rattle.lw_reg.specs.Body.{Watching}
use Rattle.lw_delta.specs.declared.form.Form.{Form}
use Rattle.lw_delta.specs.Part.{byte, bytes_of, means, must, followed, optional, Walks, repeated}
use Rattle.lw_delta.specs.Format.{number16, number32, host, address, text, sms_number, objects, attribute_name, attribute_value, attribute, watch, behind, endpoint, fields, slot}
use Rattle.lw_delta.specs.Values.{is_set, FieldContent, Behind, behind_of, fields_from, slot_from, watching_from}
use Rattle.lw_delta.specs.Delta.{DeltaContent, IsSpelling}
use Rattle.lw_delta.specs.Writable.{IsOwnText, AttributeTyped, AttributesTyped, AcceptTyped, IsOwnObjects, BehindTyped, IsTyped, IsGood, AreGood}
use Rattle.lw_delta.specs.Writing.{delta_bytes}
use Rattle.lw_delta.proofs.FieldParts.{fields_at, behind_at, attributes_each, slot_at}
use Rattle.lw_delta.proofs.Fitting.{header_below, slot_follows}
use Rattle.lw_delta.proofs.Kept.{Each, when_each, some_each, optional_each, written_each, repeated_each}
use Rattle.lw_delta.proofs.Owning.{behind_again}
use Rattle.lw_delta.proofs.PrintsDelta.{delta_reads_back}

-- ---- numbers
two_below : (b : List ℕ) → length b ≡ 2 → ((i : ℕ) → slice_index b i < 256) → from_be_bytes w16 b < 2 ^ 16
two_below [] e fits = absurd (omega arith)
two_below (a ∷ []) e fits = absurd (omega arith)
two_below (a ∷ b ∷ []) e fits = omega (arith, fits 0, fits 1)
two_below (a ∷ b ∷ c ∷ rest) e fits = absurd (omega arith)

four_below : (b : List ℕ) → length b ≡ 4 → ((i : ℕ) → slice_index b i < 256) → from_be_bytes w32 b < 2 ^ 32
four_below [] e fits = absurd (omega arith)
four_below (a ∷ []) e fits = absurd (omega arith)
four_below (a ∷ b ∷ []) e fits = absurd (omega arith)
four_below (a ∷ b ∷ c ∷ []) e fits = absurd (omega arith)
four_below (a ∷ b ∷ c ∷ d ∷ []) e fits = omega (arith, fits 0, fits 1, fits 2, fits 3)
four_below (a ∷ b ∷ c ∷ d ∷ f ∷ rest) e fits = absurd (omega arith)

number16_below : Each number16 (λ n. n < 2 ^ 16)
unfolding followed means bytes_of
number16_below bytes n rest f = subst (λ (x : ℕ). x < 2 ^ 16) (sym f.is.3.is.1) (two_below f.is.0 f.is.2.is.1 f.is.2.is.2)

number32_below : Each number32 (λ n. n < 2 ^ 32)
unfolding followed means bytes_of
number32_below bytes n rest f = subst (λ (x : ℕ). x < 2 ^ 32) (sym f.is.3.is.1) (four_below f.is.0 f.is.2.is.1 f.is.2.is.2)

-- ---- values
host_typed : (is_v4 : Bool) → Each (host is_v4) IsAddr
unfolding followed means bytes_of
host_typed true bytes a rest f =
    let p = f.is.3.is in
    subst (λ (x : Addr). IsAddr x) (sym p.3.is.1) (record { whole = f.is.2.is.1; bytes = f.is.2.is.2; port = number16_below f.is.1 p.0 p.1 p.2 })
host_typed false bytes a rest f =
    let p = f.is.3.is in
    subst (λ (x : Addr). IsAddr x) (sym p.3.is.1) (record { whole = f.is.2.is.1; bytes = f.is.2.is.2; port = number16_below f.is.1 p.0 p.1 p.2 })

address_typed : Each address IsAddr
unfolding followed must
address_typed bytes a rest f = host_typed (f.is.0 == 4) f.is.1 a rest f.is.3.is.1

text_own : (count : ℕ) → Each (text count) IsOwnText
unfolding followed must means bytes_of
text_own count bytes t rest f = subst (λ (x : List ℕ). IsOwnText x) (sym f.is.3.is.1.is.1) (f.is.3.is.0, f.is.2.is.2)

text_long : (count : ℕ) → Each (text count) (λ t. length t ≡ count)
unfolding followed must means bytes_of
text_long count bytes t rest f = subst (λ (x : List ℕ). length x ≡ count) (sym f.is.3.is.1.is.1) f.is.2.is.1

sms_own : Each sms_number (λ t. IsOwnText t × (length t ≤ 251))
unfolding followed must
sms_own bytes t rest f = (text_own f.is.0 f.is.1 t rest f.is.3.is.1, omega (arith, text_long f.is.0 f.is.1 t rest f.is.3.is.1, f.is.3.is.0))

objects_own : Each objects IsOwnObjects
unfolding followed must means bytes_of
objects_own bytes t rest f =
    let b = f.is.3.is.1.is in
    let range = f.is.3.is.0 in
    let last = b.3.is in
    subst (λ (x : List ℕ). IsOwnObjects x) (sym last.1.is.1) (last.0, b.2.is.2, omega (arith, b.2.is.1, range.0), omega (arith, b.2.is.1, range.1))

endpoint_own : (after : Option (List ℕ)) → Each (endpoint after) IsOwnText
unfolding followed must means
endpoint_own after bytes e rest f =
    let t = f.is.3.is.1.is in
    subst (λ (x : List ℕ). IsOwnText x) (sym t.3.is.1.is.1) (text_own f.is.0 f.is.1 t.0 t.1 t.2)

-- ---- fields
record ContentTyped (k : FieldContent) : Type 0 where
  pub address : IfSome k.address (λ w. IsAddr w.1)
  pub lifetime : IfSome k.lifetime (λ w. w.1 < 2 ^ 32)
  pub sms : IfSome k.sms (λ w. IfSome w.1 (λ t. IsOwnText t × (length t ≤ 251)))
  pub objects : IfSome k.objects (λ w. IsOwnObjects w.1)

fields_typed : (clock flags : ℕ) → Each (fields clock flags) ContentTyped
fields_typed clock flags bytes k rest f =
    let parts = fields_at clock flags bytes k rest f in
    record {
      address = when_each _ _ (written_each clock _ _ address_typed) _ _ _ _ parts.address;
      lifetime = when_each _ _ (written_each clock _ _ number32_below) _ _ _ _ parts.lifetime;
      sms = when_each _ _ (written_each clock _ _ (optional_each _ _ sms_own)) _ _ _ _ parts.sms;
      objects = when_each _ _ (written_each clock _ _ objects_own) _ _ _ _ parts.objects;
    }

-- ---- attributes
record NameTyped (name : List ℕ) : Type 0 where
  pub own : IsOwnText name
  pub named : IsTrue (is_attribute_name name)
  pub most : length name ≤ 255

name_typed : (after : Option (List ℕ)) → Each (attribute_name after) NameTyped
unfolding followed must means byte
name_typed after bytes name rest f =
    let t = f.is.3.is.1.is in
    let named = t.3.is in
    subst (λ (x : List ℕ). NameTyped x) (sym named.1.is.1.is.1) (record { own = text_own f.is.0 f.is.1 t.0 t.1 t.2; named = named.0; most = omega (arith, text_long f.is.0 f.is.1 t.0 t.1 t.2, f.is.2.is.1) })

value_typed : (name : List ℕ) → Each (attribute_value name) (λ v. IsOwnText v × (length v ≤ 254 - length name))
unfolding followed must
value_typed name bytes v rest f =
    let t = f.is.3.is in
    (text_own f.is.0 f.is.1 v rest t.1, subst (λ (n : ℕ). n ≤ 254 - length name) (sym (text_long f.is.0 f.is.1 v rest t.1)) t.0)

attribute_typed : (clock : ℕ) (after : Option (List ℕ)) → Each (attribute clock after) AttributeTyped
unfolding followed means
attribute_typed clock after bytes a rest f =
    let w = f.is.3.is in
    let n = name_typed after bytes f.is.0 f.is.1 f.is.2 in
    let v = written_each clock (attribute_value f.is.0) _ (value_typed f.is.0) f.is.1 w.0 w.1 w.2 in
    subst (λ (x : List ℕ × Last (List ℕ)). AttributeTyped x) (sym w.3.is.1) (record { name = n.own; value = v.0; is = record { named = n.named; most = n.most; room = v.1 } })

pub attributes_typed : (form : Form) (clock : ℕ) → Each (behind form clock) (λ more. AttributesTyped more.attributes)
attributes_typed form clock = attributes_each form clock AttributesTyped tt (repeated_each (attribute clock) (λ a. a.0) AttributeTyped (attribute_typed clock))

-- ---- watches
watching_typed : (token : Stamp) (gone : Bool) (accept : Option (Option ℕ)) → IfSome accept (λ o. IfSome o (λ n. n < 2 ^ 16)) → AcceptTyped (watching_from token gone accept).value
watching_typed token true accept h = tt
watching_typed token false None h = tt
watching_typed token false (Some o) h = h

watch_typed : (clock : ℕ) (after : Option Path) → Each (watch clock after) (λ w. AcceptTyped w.1.value)
unfolding followed must means
watch_typed clock after bytes w rest f =
    let t = f.is.3.is in
    let a = t.3.is.3.is.1.is in
    let h = when_each (optional number16) _ (optional_each _ _ number16_below) _ t.3.is.1 a.0 a.1 a.2 in
    subst (λ (x : Path × Watching). AcceptTyped x.1.value) (sym a.3.is.1) (watching_typed t.0 _ a.0 h)

behind_typed : (form : Form) (clock : ℕ) → Each (behind form clock) BehindTyped
behind_typed form clock bytes more rest f =
    let parts = behind_at form clock bytes more rest f in
    record {
      attributes = attributes_typed form clock bytes more rest f;
      accepts = repeated_each (watch clock) (λ w. w.0) (λ w. AcceptTyped w.1.value) (watch_typed clock) _ _ _ parts.watches;
    }

-- ---- slots
kept_typed : (r : Stamp) (removed : Bool) (k : FieldContent) (more : Behind) → ContentTyped k → BehindTyped (behind_of (slot_from r false k more)) → IsTyped (slot_from r removed k more)
kept_typed r true k more h b = record { fields = record { address = tt; lifetime = tt; sms = tt; objects = tt }; behind = record { attributes = tt; accepts = tt } }
kept_typed r false k more h b = record { fields = record { address = h.address; lifetime = h.lifetime; sms = h.sms; objects = h.objects }; behind = b }

slot_typed : (form : Form) (clock : ℕ) (after : Option (List ℕ)) → Each (slot form clock after) (λ s. IsTyped s.1 × IsOwnText s.0)
slot_typed form clock after bytes s rest f =
    let parts = slot_at form clock after bytes s rest f in
    let more = subst (λ (b : Behind). BehindTyped b) (sym (behind_again form clock _ parts.more _ parts.ended parts.registration parts.kept)) (behind_typed form clock _ parts.more _ parts.ended) in
    subst (λ (x : List ℕ × Slot). IsTyped x.1 × IsOwnText x.0) (sym parts.same)
    (kept_typed parts.registration (is_set parts.flags 128) parts.kept parts.more (fields_typed clock _ _ _ _ parts.fielded) more, endpoint_own after _ _ _ parts.named)

slot_good : (form : Form) (clock : ℕ) (after : Option (List ℕ)) → Each (slot form clock after) (λ s. IsGood clock after s)
slot_good form clock after bytes s rest f =
    let t = slot_typed form clock after bytes s rest f in
    (slot_follows form clock after bytes s rest f, t.0, t.1)

slots_good : (form : Form) (clock : ℕ) (after : Option (List ℕ)) (bytes : List ℕ) (ss : List (List ℕ × Slot)) (rest : List ℕ) → Walks (slot form clock) (λ s. s.0) after bytes ss rest → AreGood clock after ss
slots_good form clock after bytes [] rest w = tt
slots_good form clock after bytes (x ∷ xs) rest w = (some_each _ _ (slot_good form clock after) bytes x w.0 w.1, slots_good form clock (Some x.0) w.0 xs rest w.2)

spelled_good : (bytes : List ℕ) (d : DeltaContent) → IsSpelling bytes d → (d.clock < 2 ^ 48) × AreGood d.clock None d.slots
unfolding followed means repeated
spelled_good bytes d f =
    let ss = f.is.3.is in
    let good = slots_good f.is.0.0 f.is.0.1 None f.is.1 ss.0 ss.2.is.0 ss.2.is.1 in
    let P : ℕ × List (List ℕ × Slot) → Type 0 = λ p. (p.0 < 2 ^ 48) × AreGood p.0 None p.1 in
    subst P (sym ss.3.is.1) (header_below bytes f.is.0 f.is.1 f.is.2, good)

-- ---- what is kept
attributes_good : (es : List (List ℕ × Last (List ℕ))) → AttributesTyped es → AllByRecursion (λ (w : List ℕ × Last (List ℕ)). IsAttribute w.0 w.1.write.1) es
attributes_good [] h = tt
attributes_good (e ∷ es) h = (h.0.is, attributes_good es h.1)

kept_good : (r : Stamp) (removed : Bool) (k : FieldContent) (more : Behind) → AttributesTyped (behind_of (slot_from r false k more)).attributes → KeepsAttributes (told_fields (fields_from removed k more))
kept_good r true k more h = tt
kept_good r false k more h = attributes_good (behind_of (slot_from r false k more)).attributes h

-- the attributes of a slot that was found are attributes
pub keeps_attributes : (form : Form) (clock : ℕ) (lent : LentSlot) (more : Behind) → Holds form clock lent more → KeepsAttributes (told_fields (fields_from lent.removed lent.fields more))
keeps_attributes form clock lent more h =
    let bytes = lent.behind.bytes.now in
    let k = lent.fields in
    let same = behind_again form clock bytes more h.told.rest h.told.found lent.registration k in
    kept_good lent.registration lent.removed k more (subst (λ (b : Behind). AttributesTyped b.attributes) (sym same) (attributes_typed form clock bytes more h.told.rest h.told.found))

-- what is written of a delta that was read is a spelling of it
pub written_again : (bytes : List ℕ) (d : DeltaContent) → IsSpelling bytes d → IsSpelling (delta_bytes d.clock d.slots) d
written_again bytes d s =
    let h = spelled_good bytes d s in
    delta_reads_back d.clock d.slots h.0 h.1
