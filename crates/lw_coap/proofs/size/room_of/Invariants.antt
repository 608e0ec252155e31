use Rattle.std.proofs.Common.{length}
use Rattle.lw_coap.proofs.size.room_of.Given as goal

abbrev pub decreases-loop-option : goal.decreases-loop-option
decreases-loop-option l = length l.rest
