-- What a writer has written so far, and with one slot more.
use Rattle.std.proofs.Common.{◌≡◌, ℕ, List, [], ◌∷◌, ◌++◌, Option, Some, None, sym, ap, ◌∙◌, subst}
use Rattle.lw_reg.specs.declared.slot.Slot.{Slot}
use Rattle.lw_delta.specs.Part.{last_key}
use Rattle.lw_delta.specs.Delta.{DeltaContent, IsSpelling}
use Rattle.lw_delta.specs.Writable.{Begun, IsBegun, IsGood, AreGood, Follows, IsTyped, IsOwnText, last_endpoint}
use Rattle.lw_delta.specs.Form.{latest}
use Rattle.lw_delta.specs.Writing.{slot_bytes, delta_bytes}
use Rattle.lw_delta.proofs.Answering.{one_delta}
use Rattle.lw_delta.proofs.PrintsDelta.{delta_reads_back}
use Rattle.lw_delta.proofs.Written.{begun_push}

good_push : (clock : ℕ) (after : Option (List ℕ)) (ss : List (List ℕ × Slot)) (s : List ℕ × Slot) → AreGood clock after ss → IsGood clock (last_key (λ x. x.0) after ss) s → AreGood clock after (ss ++ s ∷ [])
good_push clock after [] s h g = (g, tt)
good_push clock after (x ∷ xs) s h g = (h.0, good_push clock (Some x.0) xs s h.1 g)

pub begun_spelled : (w : Begun) (slots : List (List ℕ × Slot)) → IsBegun w slots → IsSpelling (delta_bytes w.clock slots) (record { clock = w.clock; slots = slots })
begun_spelled w slots h = delta_reads_back w.clock slots h.in_range h.good

-- what was written tells the slots
pub begun_once : (w : Begun) (a b : List (List ℕ × Slot)) → IsBegun w a → IsBegun w b → a ≡ b
begun_once w a b h k =
    let e : delta_bytes w.clock b ≡ delta_bytes w.clock a = ap (λ (x : List ℕ). x ++ 0 ∷ []) (sym k.bytes ∙ h.bytes) in
    let second : IsSpelling (delta_bytes w.clock a) (record { clock = w.clock; slots = b }) = subst (λ (x : List ℕ). IsSpelling x (record { clock = w.clock; slots = b })) e (begun_spelled w b k) in
    ap (λ (d : DeltaContent). d.slots) (one_delta (delta_bytes w.clock a) (record { clock = w.clock; slots = a }) (record { clock = w.clock; slots = b }) (begun_spelled w a h) second)

pub begun_more : (w : Begun) (slots : List (List ℕ × Slot)) (s : List ℕ × Slot) (bytes entry : List ℕ) → IsBegun w slots → Follows w.clock (last_endpoint slots) s → IsTyped s.1 → IsOwnText s.0
    → bytes ≡ w.bytes ++ entry → entry ≡ 1 ∷ slot_bytes latest s → IsBegun (record { clock = w.clock; bytes = bytes }) (slots ++ s ∷ [])
begun_more w slots s bytes entry h follows typed own e f = record {
  bytes = begun_push latest w.clock slots s w.bytes bytes entry e f h.bytes;
  in_range = h.in_range;
  good = good_push w.clock None slots s h.good (follows, typed, own);
}

pub end_spelled : (w : Begun) (slots : List (List ℕ × Slot)) (bytes : List ℕ) → bytes ≡ w.bytes ++ 0 ∷ [] → IsBegun w slots → IsSpelling bytes (record { clock = w.clock; slots = slots })
end_spelled w slots bytes e h =
    subst (λ (x : List ℕ). IsSpelling x (record { clock = w.clock; slots = slots })) (ap (λ (x : List ℕ). x ++ 0 ∷ []) (sym h.bytes) ∙ sym e) (begun_spelled w slots h)
