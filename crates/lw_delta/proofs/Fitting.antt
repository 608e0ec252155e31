-- What was read can be written.
use Rattle.std.proofs.Common.{◌≡◌, ℕ, zero, suc, ◌+◌, ◌++◌, get_or, take, ◌<◌, ◌≤◌, ◌^◌, Bool, true, false, List, [], ◌∷◌, length, slice_index, Option, Some, None, IfSome, refl, sym, ap, ◌∙◌, subst, arith}
use Rattle.std.specs.Int.{w64, from_be_bytes}
use Rattle.lw_stamp.specs.declared.stamp.Stamp.{Stamp}
use Rattle.lw_stamp.specs.TextOrder.{text_cmp}
use Rattle.lw_stamp.proofs.StampLemmas.{spelled_counter}
use Rattle.lw_join.specs.declared.last.Last.{Last}
use Rattle.lw_reg.specs.declared.path.Path.{Path}
use Rattle.lw_reg.specs.declared.slot.Slot.{Slot}
use Rattle.lw_reg.specs.Body.{Watching}
use Rattle.lw_delta.specs.declared.form.Form.{Form}
use Rattle.lw_delta.specs.Order.{IsAbove}
use Rattle.lw_delta.specs.Part.{Part, bytes_of, means, must, followed, last_key, Walks, repeated}
use Rattle.lw_delta.specs.Format.{number48, stamp, written, attribute, watch, behind, endpoint, fields, slot, header}
use Rattle.lw_delta.specs.Values.{FieldContent, Behind, behind_of, slot_from, watching_from}
use Rattle.lw_delta.specs.Delta.{DeltaContent, IsSpelling}
use Rattle.lw_delta.specs.Writable.{AttributesWithin, TokensWithin, StampsWithin, Follows, AllFollow}
use Rattle.lw_delta.proofs.FieldParts.{fields_at, behind_at, attributes_each, ended_each, slot_at}
use Rattle.lw_delta.proofs.Kept.{Each, when_each, some_each, repeated_each}
use Rattle.lw_delta.proofs.Owning.{behind_again}

six_below : (b : List ℕ) → length b ≡ 6 → ((i : ℕ) → slice_index b i < 256) → from_be_bytes w64 (0 ∷ 0 ∷ b) < 2 ^ 48
six_below [] e fits = absurd (omega arith)
six_below (a ∷ []) e fits = absurd (omega arith)
six_below (a ∷ b ∷ []) e fits = absurd (omega arith)
six_below (a ∷ b ∷ c ∷ []) e fits = absurd (omega arith)
six_below (a ∷ b ∷ c ∷ d ∷ []) e fits = absurd (omega arith)
six_below (a ∷ b ∷ c ∷ d ∷ f ∷ []) e fits = absurd (omega arith)
six_below (a ∷ b ∷ c ∷ d ∷ f ∷ g ∷ []) e fits = omega (arith, fits 0, fits 1, fits 2, fits 3, fits 4, fits 5)
six_below (a ∷ b ∷ c ∷ d ∷ f ∷ g ∷ h ∷ rest) e fits = absurd (omega arith)

number48_below : Each number48 (λ n. n < 2 ^ 48)
unfolding followed means bytes_of
number48_below bytes n rest f = subst (λ (x : ℕ). x < 2 ^ 48) (sym f.is.3.is.1) (six_below f.is.0 f.is.2.is.1 f.is.2.is.2)

pub header_below : Each header (λ h. h.1 < 2 ^ 48)
unfolding followed means
header_below bytes h rest f =
    let n = f.is.3.is in
    subst (λ (x : Form × ℕ). x.1 < 2 ^ 48) (sym n.3.is.1) (number48_below f.is.1 n.0 n.1 n.2)

stamp_within : (clock : ℕ) → Each (stamp clock) (λ s. s.counter ≤ clock)
unfolding followed must means
stamp_within clock bytes s rest f =
    let m = f.is.3.is.1.is in
    omega (arith, m.0, spelled_counter s f.is.0 m.1.is.1)

written_within : {A : Type 0} (clock : ℕ) (part : Part A) → Each (written clock part) (λ w. w.0.counter ≤ clock)
unfolding followed means
written_within clock part bytes w rest f = subst (λ x. x.0.counter ≤ clock) (sym f.is.3.is.3.is.1) (stamp_within clock bytes f.is.0 f.is.1 f.is.2)

record FieldStamps (clock : ℕ) (k : FieldContent) : Type 0 where
  pub address : IfSome k.address (λ w. w.0.counter ≤ clock)
  pub seen : IfSome k.seen (λ w. w.0.counter ≤ clock)
  pub lifetime : IfSome k.lifetime (λ w. w.0.counter ≤ clock)
  pub binding : IfSome k.binding (λ w. w.0.counter ≤ clock)
  pub sms : IfSome k.sms (λ w. w.0.counter ≤ clock)
  pub objects : IfSome k.objects (λ w. w.0.counter ≤ clock)

fields_within : (clock flags : ℕ) → Each (fields clock flags) (FieldStamps clock)
fields_within clock flags bytes k rest f =
    let parts = fields_at clock flags bytes k rest f in
    record {
      address = when_each _ _ (written_within clock _) _ _ _ _ parts.address;
      seen = when_each _ _ (written_within clock _) _ _ _ _ parts.seen;
      lifetime = when_each _ _ (written_within clock _) _ _ _ _ parts.lifetime;
      binding = when_each _ _ (written_within clock _) _ _ _ _ parts.binding;
      sms = when_each _ _ (written_within clock _) _ _ _ _ parts.sms;
      objects = when_each _ _ (written_within clock _) _ _ _ _ parts.objects;
    }

pub token_is : (token : Stamp) (gone : Bool) (accept : Option (Option ℕ)) → (watching_from token gone accept).stamp ≡ token
token_is token true accept = refl
token_is token false accept = refl

watch_within : (clock : ℕ) (after : Option Path) → Each (watch clock after) (λ w. w.1.stamp.counter ≤ clock)
unfolding followed must means
watch_within clock after bytes w rest f =
    let t = f.is.3.is in
    let last = t.3.is.3.is.1.is in
    let same = last.3.is.1 in
    subst (λ (x : Path × Watching). x.1.stamp.counter ≤ clock) (sym same) (subst (λ (s : Stamp). s.counter ≤ clock) (sym (token_is t.0 _ last.0)) (stamp_within clock f.is.1 t.0 t.1 t.2))

attribute_within : (clock : ℕ) (after : Option (List ℕ)) → Each (attribute clock after) (λ a. a.1.write.0.counter ≤ clock)
unfolding followed means
attribute_within clock after bytes a rest f =
    let w = f.is.3.is in
    subst (λ (x : List ℕ × Last (List ℕ)). x.1.write.0.counter ≤ clock) (sym w.3.is.1) (written_within clock _ f.is.1 w.0 w.1 w.2)

record BehindWithin (clock : ℕ) (more : Behind) : Type 0 where
  pub attributes : AttributesWithin clock more.attributes
  pub ended : IfSome more.ended (λ s. s.counter ≤ clock)
  pub watches : TokensWithin clock more.watches

behind_within : (form : Form) (clock : ℕ) → Each (behind form clock) (BehindWithin clock)
behind_within form clock bytes more rest f =
    let parts = behind_at form clock bytes more rest f in
    record {
      attributes = attributes_each form clock (AttributesWithin clock) tt (repeated_each (attribute clock) (λ a. a.0) (λ a. a.1.write.0.counter ≤ clock) (attribute_within clock)) bytes more rest f;
      ended = ended_each form clock (λ s. s.counter ≤ clock) (stamp_within clock) bytes more rest f;
      watches = repeated_each (watch clock) (λ w. w.0) (λ w. w.1.stamp.counter ≤ clock) (watch_within clock) _ _ _ parts.watches;
    }

kept_within : (clock : ℕ) (r : Stamp) (removed : Bool) (k : FieldContent) (more : Behind) → r.counter ≤ clock → FieldStamps clock k → BehindWithin clock (behind_of (slot_from r false k more)) → StampsWithin clock (slot_from r removed k more)
kept_within clock r true k more h f b = record { registration = h; address = tt; seen = tt; lifetime = tt; binding = tt; sms = tt; objects = tt; attributes = tt; ended = tt; watches = tt }
kept_within clock r false k more h f b = record { registration = h; address = f.address; seen = f.seen; lifetime = f.lifetime; binding = f.binding; sms = f.sms; objects = f.objects; attributes = b.attributes; ended = b.ended; watches = b.watches }

record IsEndpoint (after : Option (List ℕ)) (e : List ℕ) : Type 0 where
  pub some : 1 ≤ length e
  pub most : length e ≤ 252
  pub above : IsAbove text_cmp after e

endpoint_is : (after : Option (List ℕ)) → Each (endpoint after) (IsEndpoint after)
unfolding followed must means bytes_of
endpoint_is after bytes e rest f =
    let count = f.is.3.is in
    let t = count.1.is in
    let b = t.2.is in
    let long : length t.0 ≡ f.is.0 = ap length b.3.is.1.is.1 ∙ b.2.is.1 in
    let same = t.3.is.1.is.1 in
    subst (λ x. IsEndpoint after x) (sym same) (record { some = omega (arith, long, count.0.0); most = omega (arith, long, count.0.1); above = t.3.is.0 })

pub slot_follows : (form : Form) (clock : ℕ) (after : Option (List ℕ)) → Each (slot form clock after) (λ s. Follows clock after s)
slot_follows form clock after bytes s rest f =
    let parts = slot_at form clock after bytes s rest f in
    let e = endpoint_is after _ _ _ parts.named in
    let more = subst (λ (b : Behind). BehindWithin clock b) (sym (behind_again form clock _ parts.more _ parts.ended parts.registration parts.kept)) (behind_within form clock _ parts.more _ parts.ended) in
    subst (λ (x : List ℕ × Slot). Follows clock after x) (sym parts.same) (record {
      some = e.some;
      most = e.most;
      above = e.above;
      stamps = kept_within clock parts.registration _ parts.kept parts.more (stamp_within clock _ _ _ parts.stamped) (fields_within clock _ _ _ _ parts.fielded) more;
    })

slots_follow : (form : Form) (clock : ℕ) (after : Option (List ℕ)) (bytes : List ℕ) (ss : List (List ℕ × Slot)) (rest : List ℕ) → Walks (slot form clock) (λ s. s.0) after bytes ss rest → AllFollow clock after ss
slots_follow form clock after bytes [] rest w = tt
slots_follow form clock after bytes (x ∷ xs) rest w = (some_each _ _ (slot_follows form clock after) bytes x w.0 w.1, slots_follow form clock (Some x.0) w.0 xs rest w.2)

pub spelled_fits : (bytes : List ℕ) (d : DeltaContent) → IsSpelling bytes d → (d.clock < 2 ^ 48) × AllFollow d.clock None d.slots
unfolding followed means repeated
spelled_fits bytes d f =
    let ss = f.is.3.is in
    let same = ss.3.is.1 in
    let all = slots_follow f.is.0.0 f.is.0.1 None f.is.1 ss.0 ss.2.is.0 ss.2.is.1 in
    let P : ℕ × List (List ℕ × Slot) → Type 0 = λ p. (p.0 < 2 ^ 48) × AllFollow p.0 None p.1 in
    subst P (sym same) (header_below bytes f.is.0 f.is.1 f.is.2, all)

-- the slot at a place may be written behind those before
pub follow_at : (clock : ℕ) (after : Option (List ℕ)) (ss : List (List ℕ × Slot)) (i : ℕ) (x : List ℕ × Slot) → AllFollow clock after ss → i < length ss → x ≡ get_or ss i x
    → Follows clock (last_key (λ s. s.0) after (take i ss)) x × (take (suc i) ss ≡ take i ss ++ x ∷ [])
follow_at clock after [] i x h lt e = absurd (omega arith)
follow_at clock after (s ∷ ss) zero x h lt e = (subst (λ (y : List ℕ × Slot). Follows clock after y) (sym e) h.0, ap (λ (y : List ℕ × Slot). y ∷ []) (sym e))
follow_at clock after (s ∷ ss) (suc i) x h lt e =
    let more = follow_at clock (Some s.0) ss i x h.1 (omega (arith, lt)) e in
    (more.0, ap (λ (ys : List (List ℕ × Slot)). s ∷ ys) more.1)

pub take_step : (ss : List (List ℕ × Slot)) (i : ℕ) → take (suc i) ss ≡ take (i + 1) ss
take_step ss i = let e : suc i ≡ i + 1 = omega arith in ap (λ (n : ℕ). take n ss) e
