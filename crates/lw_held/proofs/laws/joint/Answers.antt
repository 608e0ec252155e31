use Rattle.lw_held.proofs.Joining.{joint_histories_run}
use Rattle.lw_held.proofs.laws.joint.Goals as goal

pub returns : goal.returns
returns c = joint_histories_run
