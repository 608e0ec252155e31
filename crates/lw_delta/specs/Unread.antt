-- What is left of a delta that is read slot by slot.
use Rattle.std.specs.Prelude.{◌≡◌, ℕ, List, [], ◌∷◌, Option, None, Some}
use Rattle.lw_reg.specs.declared.slot.Slot.{Slot}
use Rattle.lw_delta.specs.declared.form.Form.{Form}
use Rattle.lw_delta.specs.Part.{Found, repeated}
use Rattle.lw_delta.specs.Format.{slot}

-- the format, the sender's clock, the endpoint of the slot before, and the bytes from the next slot on
pub record Unread : Type 0 where
  pub form : Form
  pub clock : ℕ
  pub after : Option (List ℕ)
  pub bytes : List ℕ

-- the bytes are these slots, and nothing stands behind them
abbrev pub IsLeft : Unread → List (List ℕ × Slot) → Type 0
IsLeft unread slots = Found (repeated (slot unread.form unread.clock) (λ s. s.0) unread.after) unread.bytes slots []

-- the first of the slots is given, or none where there is none, and the others are left
abbrev pub Leaves : List (List ℕ × Slot) → Option (List ℕ × Slot) → Unread → Type 0
Leaves slots None unread = (slots ≡ []) × IsLeft unread []
Leaves slots (Some entry) unread = (rest : List (List ℕ × Slot)) × (slots ≡ entry ∷ rest) × IsLeft unread rest
