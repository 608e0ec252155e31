-- The flag byte of a slot.
use Rattle.std.proofs.Common.{◌≡◌, ℕ, refl, ap}
use Rattle.lw_join.specs.declared.or_gone.OrGone.{OrGone}
use Rattle.lw_join.specs.declared.or_gone.OrGone.TheVariants.{Here, Gone}
use Rattle.lw_reg.specs.declared.body.Body.{Body}
use Rattle.lw_reg.specs.declared.slot.Slot.{Slot}
use Rattle.lw_delta.specs.Writing.{flags_told, field_flags, flags_byte}

told_not : (value : OrGone Body) (flags : ℕ) → (value ≡ Gone → ⊥) → flags_told value flags ≡ flags
told_not Gone flags other = absurd (other refl)
told_not (Here body) flags other = refl

pub told_here : (slot : Slot) → (slot.registration.value ≡ Gone → ⊥) → flags_byte slot ≡ field_flags slot
told_here slot other = told_not slot.registration.value (field_flags slot) other

pub told_gone : (slot : Slot) → slot.registration.value ≡ Gone → flags_byte slot ≡ 128
told_gone slot e = ap (λ value. flags_told value (field_flags slot)) e
