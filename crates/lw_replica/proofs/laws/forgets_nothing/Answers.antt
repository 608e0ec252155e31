use Rattle.lw_replica.proofs.Living.{forgets_nothing}
use Rattle.lw_replica.proofs.laws.forgets_nothing.Goals as goal

pub returns : goal.returns
returns c = forgets_nothing
