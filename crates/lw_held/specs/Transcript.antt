-- What a pass keeps of the calls that were made with it.
use Rattle.std.specs.Prelude.{◌≡◌, ℕ, List, [], ◌∷◌, ◌++◌, Some, slice_get}
use Rattle.lw_held.specs.declared.entry.Entry.{Entry}
use Rattle.lw_held.specs.declared.entry.Part.{Part}

-- the number of a pass, and the parts of its calls in order
pub record Transcript : Type 0 where
  pub number : ℕ
  pub parts : List Part

-- each part has the pass's number, and its own place in the transcript as the number of its entry
abbrev pub IsNumbered : Transcript → Type 0
IsNumbered pass = (k : ℕ) (part : Part) → slice_get pass.parts k ≡ Some part → (part.entry.pass ≡ pass.number) × (part.entry.number ≡ k)

-- the transcript with one part more
abbrev pub with_part : Transcript → ℕ → ℕ → Entry → Transcript
with_part pass node place entry = record { number = pass.number; parts = pass.parts ++ record { node = node; place = place; entry = entry } ∷ [] }
