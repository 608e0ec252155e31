-- The token of an observation among the keys of a slot.
use Rattle.std.specs.Prelude.{ℕ, Option, Some, None}
use Rattle.lw_stamp.specs.declared.stamp.Stamp.{Stamp}
use Rattle.lw_join.specs.declared.once.Once.{Once}
use Rattle.lw_join.specs.declared.or_gone.OrGone.{OrGone}
use Rattle.lw_join.specs.declared.or_gone.OrGone.TheVariants.{Here, Gone}
use Rattle.lw_reg.specs.Body.{Watching}

-- the token of a watch that was not cancelled
abbrev pub token_here : Stamp → OrGone (Once ℕ) → Option Stamp
token_here token Gone = None
token_here token (Here accept) = Some token

abbrev pub token_in : Watching → Option Stamp
token_in watching = token_here watching.stamp watching.value
