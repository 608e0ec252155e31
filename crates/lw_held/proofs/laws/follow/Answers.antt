use Rattle.lw_held.proofs.Histories.{follow}
use Rattle.lw_held.proofs.laws.follow.Goals as goal

pub returns : goal.returns
returns c = follow
