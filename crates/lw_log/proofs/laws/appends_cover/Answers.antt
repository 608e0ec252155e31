use Rattle.lw_node.specs.Exchange.{IsBelow}
use Rattle.lw_log.proofs.Keeping.{appends_cover, below_order}
use Rattle.lw_log.proofs.laws.appends_cover.Goals as goal

pub returns : goal.returns
returns c = appends_cover IsBelow below_order
