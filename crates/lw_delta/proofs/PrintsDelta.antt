-- The bytes of a slot, and of a delta, are read as what they were written from.
use Rattle.std.proofs.Common.{◌≡◌, ℕ, zero, suc, ◌<◌, ◌≤◌, ◌^◌, Bool, true, false, List, [], ◌∷◌, ◌++◌, length, slice_index, Option, Some, None, IfSome, refl, sym, ap, ◌∙◌, subst, arith, append_assoc, is_some}
use Rattle.std.proofs.lemmas.List.{append-nil}
use Rattle.lw_stamp.specs.declared.stamp.Stamp.{Stamp}
use Rattle.lw_stamp.specs.Stamp.{stamp_bytes}
use Rattle.lw_stamp.specs.TextOrder.{text_cmp}
use Rattle.lw_join.specs.declared.or_gone.OrGone.{OrGone}
use Rattle.lw_join.specs.declared.or_gone.OrGone.TheVariants.{Here, Gone}
use Rattle.lw_join.specs.Parts.{entries_of, made}
use Rattle.lw_join.specs.PartsLaws.{entries_made, same_parts}
use Rattle.lw_reg.specs.declared.base.Base.{Base}
use Rattle.lw_reg.specs.declared.body.Body.{Body}
use Rattle.lw_reg.specs.declared.slot.Slot.{Slot}
use Rattle.lw_reg.specs.Body.{Watches, AttributeMap}
use Rattle.lw_reg.specs.Reading.{stamp_of, base_of, address_of, seen_of, lifetime_of, binding_of, sms_of, objects_of}
use Rattle.lw_reg.specs.Slot.{slot_at}
use Rattle.lw_delta.specs.declared.form.Form.{Form}
use Rattle.lw_delta.specs.declared.form.Form.TheVariants.{First, Second, Third}
use Rattle.lw_delta.specs.Form.{magic_of, latest}
use Rattle.lw_delta.specs.Order.{IsAbove}
use Rattle.lw_delta.specs.Part.{Part, Found, when, optional, Walks, repeated}
use Rattle.lw_delta.specs.Format.{base, endpoint, fields, slot, slots, magic, header, delta}
use Rattle.lw_delta.specs.Values.{is_set, FieldContent, behind_of, slot_from}
use Rattle.lw_delta.specs.Delta.{IsSpelling}
use Rattle.lw_delta.specs.Writable.{StampsWithin, Follows, IsOwnText, FieldsTyped, IsTyped, AreGood}
use Rattle.lw_delta.specs.Writing.{base_byte, base_bytes, addr_bytes, moment_bytes, number32_bytes, binding_bytes, sms_bytes, objects_bytes, written_bytes, number48_bytes, text_bytes, behind_bytes, field_flags, fields_bytes, slot_bytes, slots_bytes, delta_bytes}
use Rattle.lw_delta.proofs.FlagBits.{bits_tell, flags_small}
use Rattle.lw_delta.proofs.Prints.{Prints, prints_both, prints_then, prints_meant, prints_held, prints_byte, prints_bytes, prints_tag, prints_number32, prints_number48, prints_stamp, prints_written, prints_base, prints_addr, prints_moment, prints_binding, prints_sms, prints_objects, prints_text}
use Rattle.lw_delta.proofs.PrintsSlots.{BehindFits, prints_behind}

prints_endpoint : (after : Option (List ℕ)) (e : List ℕ) → 1 ≤ length e → length e ≤ 252 → IsOwnText e → IsAbove text_cmp after e → Prints (endpoint after) (text_bytes e) e
prints_endpoint after e some most own above =
    prints_both _ _ (length e ∷ []) e (length e) e (prints_byte (length e) (omega (arith, most))) (prints_held _ _ _ e e (some, most)
    (prints_then _ _ e e e (prints_text e own.0 own.1) (prints_held _ _ _ [] e above (prints_meant _ e refl))))

-- ---- fields
abbrev content_in : Slot → FieldContent
content_in s = record { base = base_of s; address = address_of s; seen = seen_of s; lifetime = lifetime_of s; binding = binding_of s; sms = sms_of s; objects = objects_of s }

record FlagsSay (flags : ℕ) (s : Slot) : Type 0 where
  pub base : is_some (base_of s) ≡ is_set flags 1
  pub address : is_some (address_of s) ≡ is_set flags 2
  pub seen : is_some (seen_of s) ≡ is_set flags 4
  pub lifetime : is_some (lifetime_of s) ≡ is_set flags 8
  pub binding : is_some (binding_of s) ≡ is_set flags 16
  pub sms : is_some (sms_of s) ≡ is_set flags 32
  pub objects : is_some (objects_of s) ≡ is_set flags 64

prints_when : {A : Type 0} (part : Part A) (known flag : Bool) (a : List ℕ) (o : Option A) → known ≡ flag → Prints (when known part) a o → Prints (when flag part) a o
prints_when part known flag a o e f = subst (λ (b : Bool). Prints (when b part) a o) e f

base_there : (o : Option Base) → Prints (when (is_some o) base) (base_bytes o) o
base_there None = prints_meant _ None refl
base_there (Some b) = prints_then _ _ (base_byte b ∷ []) b (Some b) (prints_base b) (prints_meant _ (Some b) refl)

weaken : {A : Type 0} (o : Option A) (P Q : A → Type 0) → ((x : A) → P x → Q x) → IfSome o P → IfSome o Q
weaken None P Q f h = tt
weaken (Some x) P Q f h = f x h

always : {A : Type 0} (o : Option A) (Q : A → Type 0) → ((x : A) → Q x) → IfSome o Q
always None Q f = tt
always (Some x) Q f = f x

prints_fields : (clock flags : ℕ) (s : Slot) → StampsWithin clock s → FieldsTyped s → FlagsSay flags s → Prints (fields clock flags) (fields_bytes s) (content_in s)
prints_fields clock flags s within typed say =
    let k = content_in s in
    let o7 = written_bytes objects_bytes k.objects in
    let o6 = written_bytes sms_bytes k.sms ++ o7 in
    let o5 = written_bytes binding_bytes k.binding ++ o6 in
    let o4 = written_bytes number32_bytes k.lifetime ++ o5 in
    let o3 = written_bytes moment_bytes k.seen ++ o4 in
    let o2 = written_bytes addr_bytes k.address ++ o3 in
    prints_both _ _ (base_bytes k.base) o2 k.base k (prints_when _ _ _ _ _ say.base (base_there k.base))
    (prints_both _ _ (written_bytes addr_bytes k.address) o3 k.address k (prints_when _ _ _ _ _ say.address (prints_written clock _ addr_bytes k.address within.address (weaken k.address _ _ (λ w h. prints_addr w.1 h) typed.address)))
    (prints_both _ _ (written_bytes moment_bytes k.seen) o4 k.seen k (prints_when _ _ _ _ _ say.seen (prints_written clock _ moment_bytes k.seen within.seen (always k.seen _ (λ w. prints_moment w.1))))
    (prints_both _ _ (written_bytes number32_bytes k.lifetime) o5 k.lifetime k (prints_when _ _ _ _ _ say.lifetime (prints_written clock _ number32_bytes k.lifetime within.lifetime (weaken k.lifetime _ _ (λ w h. prints_number32 w.1 h) typed.lifetime)))
    (prints_both _ _ (written_bytes binding_bytes k.binding) o6 k.binding k (prints_when _ _ _ _ _ say.binding (prints_written clock _ binding_bytes k.binding within.binding (always k.binding _ (λ w. prints_binding w.1))))
    (prints_both _ _ (written_bytes sms_bytes k.sms) o7 k.sms k (prints_when _ _ _ _ _ say.sms (prints_written clock _ sms_bytes k.sms within.sms (weaken k.sms _ _ (λ w h. prints_sms w.1 h) typed.sms)))
    (prints_then _ _ o7 k.objects k (prints_when _ _ _ _ _ say.objects (prints_written clock _ objects_bytes k.objects within.objects (weaken k.objects _ _ (λ w h. prints_objects w.1 h.0 h.1 h.2 h.3) typed.objects))) (prints_meant _ k refl)))))))

-- ---- slots
prints_body : (clock : ℕ) (after : Option (List ℕ)) (e : List ℕ) (s : Slot) (flags : ℕ) → flags < 256 → Follows clock after (e, s) → IsTyped s → IsOwnText e → FlagsSay flags s
    → s ≡ slot_from (stamp_of s) (is_set flags 128) (content_in s) (behind_of s) → BehindFits clock (behind_of s)
    → Prints (slot latest clock after) (text_bytes e ++ (stamp_bytes (stamp_of s) ++ (flags ∷ (fields_bytes s ++ behind_bytes latest (behind_of s))))) (e, s)
prints_body clock after e s flags small f typed own say same fits =
    let x : List ℕ × Slot = (e, s) in
    let w = behind_bytes latest (behind_of s) in
    prints_both _ _ (text_bytes e) (stamp_bytes (stamp_of s) ++ (flags ∷ (fields_bytes s ++ w))) e x (prints_endpoint after e f.some f.most own f.above)
    (prints_both _ _ (stamp_bytes (stamp_of s)) (flags ∷ (fields_bytes s ++ w)) (stamp_of s) x (prints_stamp clock (stamp_of s) f.stamps.registration)
    (prints_both _ _ (flags ∷ []) (fields_bytes s ++ w) flags x (prints_byte flags small)
    (prints_both _ _ (fields_bytes s) w (content_in s) x (prints_fields clock flags s f.stamps typed.fields say)
    (prints_then _ _ w (behind_of s) x (prints_behind clock (behind_of s) fits) (prints_meant _ x (ap (λ (y : Slot). let p : List ℕ × Slot = (e, y) in p) same))))))

here_again : (r : Stamp) (body : Body) (removed : Bool) → removed ≡ false → slot_at r (Here body) ≡ slot_from r removed (content_in (slot_at r (Here body))) (behind_of (slot_at r (Here body)))
here_again r body removed e =
    let left : AttributeMap = body.maps.left in
    let right : Watches = body.maps.right in
    let same_left : left ≡ made (entries_of left) = same_parts left (made (entries_of left)) (sym (entries_made _ _ _ (entries_of left) left.rises)) in
    let same_right : right ≡ made (entries_of right) = same_parts right (made (entries_of right)) (sym (entries_made _ _ _ (entries_of right) right.rises)) in
    (λ i. slot_at r (Here (record body { maps = record { left = same_left i; right = same_right i } })))
    ∙ ap (λ (b : Bool). slot_from r b (content_in (slot_at r (Here body))) (behind_of (slot_at r (Here body)))) (sym e)

prints_told : (clock : ℕ) (after : Option (List ℕ)) (e : List ℕ) (r : Stamp) (value : OrGone Body) → Follows clock after (e, slot_at r value) → IsTyped (slot_at r value) → IsOwnText e
    → Prints (slot latest clock after) (slot_bytes latest (e, slot_at r value)) (e, slot_at r value)
prints_told clock after e r Gone f typed own =
    prints_body clock after e (slot_at r Gone) 128 (omega arith) f typed own (record { base = refl; address = refl; seen = refl; lifetime = refl; binding = refl; sms = refl; objects = refl }) refl (record { names_rise = tt; within = f.stamps.attributes; ended = f.stamps.ended; watches_rise = tt; tokens = f.stamps.watches; typed = typed.behind })
prints_told clock after e r (Here body) f typed own =
    let s = slot_at r (Here body) in
    let a = is_some (base_of s) in
    let b = is_some (address_of s) in
    let c = is_some (seen_of s) in
    let d = is_some (lifetime_of s) in
    let g = is_some (binding_of s) in
    let h = is_some (sms_of s) in
    let k = is_some (objects_of s) in
    let t = bits_tell a b c d g h k in
    prints_body clock after e s (field_flags s) (flags_small a b c d g h k) f typed own
    (record { base = sym t.0; address = sym t.1.0; seen = sym t.1.1.0; lifetime = sym t.1.1.1.0; binding = sym t.1.1.1.1.0; sms = sym t.1.1.1.1.1.0; objects = sym t.1.1.1.1.1.1.0 })
    (here_again r body (is_set (field_flags s) 128) t.1.1.1.1.1.1.1.0) (record { names_rise = body.maps.left.rises; within = f.stamps.attributes; ended = f.stamps.ended; watches_rise = body.maps.right.rises; tokens = f.stamps.watches; typed = typed.behind })

pub prints_slot : (clock : ℕ) (after : Option (List ℕ)) (s : List ℕ × Slot) → Follows clock after s → IsTyped s.1 → IsOwnText s.0 → Prints (slot latest clock after) (slot_bytes latest s) s
prints_slot clock after s f typed own = prints_told clock after s.0 s.1.registration.stamp s.1.registration.value f typed own

slots_walk : (clock : ℕ) (after : Option (List ℕ)) (ss : List (List ℕ × Slot)) (rest : List ℕ) → AreGood clock after ss → Walks (slot latest clock) (λ s. s.0) after (slots_bytes latest ss ++ 0 ∷ rest) ss (0 ∷ rest)
slots_walk clock after [] rest h = refl
slots_walk clock after (s ∷ ss) rest h =
    let here : Prints (optional (slot latest clock after)) (1 ∷ slot_bytes latest s) (Some s) =
    prints_both _ _ (1 ∷ []) (slot_bytes latest s) true (Some s) (prints_tag 1 true (omega arith) refl) (prints_then _ _ (slot_bytes latest s) s (Some s) (prints_slot clock after s h.0.0 h.0.1 h.0.2) (prints_meant _ (Some s) refl)) in (
      slots_bytes latest ss ++ 0 ∷ rest,
      subst (λ (x : List ℕ). Found (optional (slot latest clock after)) x (Some s) (slots_bytes latest ss ++ 0 ∷ rest)) (sym (append_assoc (1 ∷ slot_bytes latest s) (slots_bytes latest ss) (0 ∷ rest))) (here (slots_bytes latest ss ++ 0 ∷ rest)),
      slots_walk clock (Some s.0) ss rest h.1,
    )

prints_slots : (clock : ℕ) (ss : List (List ℕ × Slot)) → AreGood clock None ss → Prints (slots latest clock) (slots_bytes latest ss ++ 0 ∷ []) ss
unfolding repeated
prints_slots clock ss h rest =
    let w = slots_walk clock None ss rest h in
    let e : (slots_bytes latest ss ++ 0 ∷ []) ++ rest ≡ slots_bytes latest ss ++ 0 ∷ rest = append_assoc (slots_bytes latest ss) (0 ∷ []) rest in
    record { is = (0 ∷ rest, subst (λ (x : List ℕ). Walks (slot latest clock) (λ s. s.0) None x ss (0 ∷ rest)) (sym e) w, prints_then _ _ (0 ∷ []) false None (prints_tag 0 false (omega arith) refl) (prints_meant _ None refl) rest) }

magic_fits : (form : Form) (i : ℕ) → slice_index (magic_of form) i < 256
magic_fits First zero = omega arith
magic_fits First (suc zero) = omega arith
magic_fits First (suc (suc zero)) = omega arith
magic_fits First (suc (suc (suc zero))) = omega arith
magic_fits First (suc (suc (suc (suc i)))) = omega arith
magic_fits Second zero = omega arith
magic_fits Second (suc zero) = omega arith
magic_fits Second (suc (suc zero)) = omega arith
magic_fits Second (suc (suc (suc zero))) = omega arith
magic_fits Second (suc (suc (suc (suc i)))) = omega arith
magic_fits Third zero = omega arith
magic_fits Third (suc zero) = omega arith
magic_fits Third (suc (suc zero)) = omega arith
magic_fits Third (suc (suc (suc zero))) = omega arith
magic_fits Third (suc (suc (suc (suc i)))) = omega arith

magic_long : (form : Form) → length (magic_of form) ≡ 4
magic_long First = refl
magic_long Second = refl
magic_long Third = refl

prints_magic : (form : Form) → Prints magic (magic_of form) form
prints_magic form = prints_then _ _ (magic_of form) (magic_of form) form (prints_bytes (magic_of form) 4 (magic_long form) (magic_fits form)) (prints_held _ _ _ [] form (form, refl) (prints_meant _ form refl))

prints_header : (form : Form) (clock : ℕ) → clock < 2 ^ 48 → Prints header (magic_of form ++ number48_bytes clock) (form, clock)
prints_header form clock fits =
    let h : Form × ℕ = (form, clock) in
    prints_both _ _ (magic_of form) (number48_bytes clock) form h (prints_magic form) (prints_then _ _ (number48_bytes clock) clock h (prints_number48 clock fits) (prints_meant _ h refl))

-- what a writer ends with is a delta of what was written
pub delta_reads_back : (clock : ℕ) (ss : List (List ℕ × Slot)) → clock < 2 ^ 48 → AreGood clock None ss → IsSpelling (delta_bytes clock ss) (record { clock = clock; slots = ss })
delta_reads_back clock ss fits good =
    let front = magic_of latest ++ number48_bytes clock in
    let h : Form × ℕ = (latest, clock) in
    let d : ℕ × List (List ℕ × Slot) = (clock, ss) in
    let whole : Prints delta (front ++ (slots_bytes latest ss ++ 0 ∷ [])) d =
    prints_both _ _ front (slots_bytes latest ss ++ 0 ∷ []) h d (prints_header latest clock fits) (prints_then _ _ (slots_bytes latest ss ++ 0 ∷ []) ss d (prints_slots clock ss good) (prints_meant _ d refl)) in
    subst (λ (x : List ℕ). Found delta x d []) (append-nil (front ++ (slots_bytes latest ss ++ 0 ∷ [])) ∙ sym (append_assoc front (slots_bytes latest ss) (0 ∷ []))) (whole [])
