use Rattle.lw_world.proofs.Chaining.{deltas_last, chains_reach}
use Rattle.lw_world.proofs.laws.chains_reach.Goals as goal

pub returns-clause-last : goal.returns-clause-last
returns-clause-last c = deltas_last

pub returns-clause-reach : goal.returns-clause-reach
returns-clause-reach c = chains_reach
