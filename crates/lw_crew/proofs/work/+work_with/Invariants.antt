use Rattle.std.proofs.Common.{vec_len}
use Rattle.lw_crew.proofs.work.+work_with.Given as goal

abbrev pub decreases-work_with : goal.decreases-work_with
decreases-work_with g l = vec_len l.passes
