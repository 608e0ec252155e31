use Rattle.std.proofs.Common.{◌≡◌, length}
use Rattle.std.specs.Prelude.{slice_get}
use Rattle.lw_messaging.specs.Blocks.{values_of}
use Rattle.lw_messaging.proofs.block_options.value_at.Given as goal

abbrev pub invariant-loop-option : goal.invariant-loop-option
invariant-loop-option l = slice_get (values_of l.number l.options) l.fn.place ≡ slice_get (values_of l.number l.rest) l.left

abbrev pub decreases-loop-option : goal.decreases-loop-option
decreases-loop-option l = length l.rest
