-- Commands whose options are their own, and what a parse found for them.
use Rattle.std.proofs.Common.{◌≡◌, ◌||◌, ◌∙◌, Bool, false, List, Option, Some, None, option_map, ap₂}
use Rattle.clap.specs.Words.{Row, Text}
use Rattle.lw_fleet.specs.CommandLine.{option_rows}

-- an option that is not global added to a command that has no global one
pub no_globals : (before option after : Bool) → after ≡ (before || option) → before ≡ false → option ≡ false → after ≡ false
no_globals before option after is none local = is ∙ ap₂ (λ (b o : Bool). b || o) none local

-- what was found for the options of the command that a parse met
pub option_rows_are : (s : Option (Text × List Row)) (rows : List Row) → Some rows ≡ option_map (λ p. p.1) s → rows ≡ option_rows s
option_rows_are None rows e = cc
option_rows_are (Some command) rows e = cc
