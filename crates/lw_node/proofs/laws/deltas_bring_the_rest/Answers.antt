use Rattle.lw_node.proofs.RestLemmas.{deltas_bring}
use Rattle.lw_node.proofs.laws.deltas_bring_the_rest.Goals as goal

pub returns : goal.returns
returns c = deltas_bring
