-- What is gone from a delta: a registration that was removed, a watch that was cancelled.
use Rattle.std.specs.Prelude.{◌≡◌, ℕ, ◌⊎◌, List, [], ◌∷◌}
use Rattle.lw_join.specs.declared.or_gone.OrGone.TheVariants.{Gone}
use Rattle.lw_reg.specs.declared.path.Path.{Path}
use Rattle.lw_reg.specs.declared.slot.Slot.{Slot}
use Rattle.lw_reg.specs.Body.{Watching}
use Rattle.lw_reg.specs.Reading.{watches_of}

-- one of the watches was cancelled
abbrev pub HasCancelled : List (Path × Watching) → Type 0
HasCancelled [] = ⊥
HasCancelled (w ∷ ws) = (w.1.value ≡ Gone) ⊎ HasCancelled ws

-- the registration was removed, or one of its watches cancelled
abbrev pub HasRemoval : Slot → Type 0
HasRemoval slot = (slot.registration.value ≡ Gone) ⊎ HasCancelled (watches_of slot)

-- so it is with one of the slots
abbrev pub HaveRemoval : List (List ℕ × Slot) → Type 0
HaveRemoval [] = ⊥
HaveRemoval (s ∷ ss) = HasRemoval s.1 ⊎ HaveRemoval ss
