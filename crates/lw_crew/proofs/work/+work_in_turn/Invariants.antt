use Rattle.std.proofs.Common.{vec_len}
use Rattle.lw_crew.proofs.work.+work_in_turn.Given as goal

abbrev pub decreases-work_in_turn : goal.decreases-work_in_turn
decreases-work_in_turn g l = vec_len l.passes
