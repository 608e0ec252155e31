-- The bytes of slots, one after another.
use Rattle.std.proofs.Common.{◌≡◌, ℕ, List, [], ◌∷◌, ◌++◌, sym, ap, ◌∙◌, append_assoc}
use Rattle.std.proofs.lemmas.List.{append-nil}
use Rattle.lw_reg.specs.declared.slot.Slot.{Slot}
use Rattle.lw_delta.specs.declared.form.Form.{Form}
use Rattle.lw_delta.specs.Form.{magic_of}
use Rattle.lw_delta.specs.Writing.{number48_bytes, slot_bytes, slots_bytes, begun_bytes_in}

slots_push : (form : Form) (ss : List (List ℕ × Slot)) (s : List ℕ × Slot) → slots_bytes form ss ++ (1 ∷ slot_bytes form s) ≡ slots_bytes form (ss ++ s ∷ [])
slots_push form [] s = ap (λ (x : List ℕ). 1 ∷ x) (sym (append-nil (slot_bytes form s)))
slots_push form (t ∷ ts) s = ap (λ (x : List ℕ). 1 ∷ x) (append_assoc (slot_bytes form t) (slots_bytes form ts) (1 ∷ slot_bytes form s) ∙ ap (λ (x : List ℕ). slot_bytes form t ++ x) (slots_push form ts s))

pub begun_push : (form : Form) (clock : ℕ) (ss : List (List ℕ × Slot)) (s : List ℕ × Slot) (old new entry : List ℕ) → new ≡ old ++ entry → entry ≡ 1 ∷ slot_bytes form s → old ≡ begun_bytes_in form clock ss → new ≡ begun_bytes_in form clock (ss ++ s ∷ [])
begun_push form clock ss s old new entry e f g =
    e ∙ ap (λ (x : List ℕ). old ++ x) f ∙ ap (λ (x : List ℕ). x ++ (1 ∷ slot_bytes form s)) g
    ∙ append_assoc (magic_of form ++ number48_bytes clock) (slots_bytes form ss) (1 ∷ slot_bytes form s) ∙ ap (λ (x : List ℕ). (magic_of form ++ number48_bytes clock) ++ x) (slots_push form ss s)
