-- What workers leave in the transcripts of their passes.
use Rattle.std.specs.Prelude.{◌≡◌, ℕ, List, ◌++◌, length, Some, slice_get}
use Rattle.lw_held.specs.declared.entry.Part.{Part}
use Rattle.lw_held.specs.Transcript.{Transcript}

-- the later transcript is of the same pass and begins with the earlier one
pub record Continues (old new : Transcript) : Type 0 where
  pub number : new.number ≡ old.number
  pub more : List Part
  pub parts : new.parts ≡ old.parts ++ more

-- each transcript continues the one in its place
pub record AllContinue (old new : List Transcript) : Type 0 where
  pub len : length new ≡ length old
  pub each : (i : ℕ) (before after : Transcript) → slice_get old i ≡ Some before → slice_get new i ≡ Some after → Continues before after
