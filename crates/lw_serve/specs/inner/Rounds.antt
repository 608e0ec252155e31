-- The numbers of the passes of a round.
use Rattle.std.specs.Prelude.{◌≡◌, ℕ, List, Some, slice_get}
use Rattle.lw_held.specs.Transcript.{Transcript}

-- each pass stands at the place of its number
abbrev pub AreNumbered : List Transcript → Type 0
AreNumbered passes = (i : ℕ) (pass : Transcript) → slice_get passes i ≡ Some pass → pass.number ≡ i
