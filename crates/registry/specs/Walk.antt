-- What a walk over the fleet has met so far.
use Rattle.std.specs.Prelude.{◌-◌, ℕ, List, [], ◌∷◌, length, Option, Some, slice_get}
use Rattle.std.specs.Option.{option_map}
use Rattle.lw_reg.specs.Marks.{Marks}
use Rattle.lw_reg.specs.Registration.{Registration}
use Rattle.lw_table.specs.Answers.{FirstAfter}

-- the endpoint of the last, if there is one
abbrev pub last_of : List Registration → Option (List ℕ)
last_of met = option_map (λ r. r.endpoint) (slice_get met (length met - 1))

-- each is the first that is shown above the one before, and the first of them above the given one
abbrev pub AreMet : Marks → ℕ → Option (List ℕ) → List Registration → Type 0
AreMet M now after [] = Unit {0}
AreMet M now after (r ∷ rs) = FirstAfter M now after (Some r) × AreMet M now (Some r.endpoint) rs
