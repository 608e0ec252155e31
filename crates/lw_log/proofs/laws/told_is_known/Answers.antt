use Rattle.lw_node.specs.Exchange.{IsBelow}
use Rattle.lw_log.proofs.Keeping.{told, readers_know, below_order}
use Rattle.lw_log.proofs.laws.told_is_known.Goals as goal

pub returns : goal.returns
returns c = record { told = told IsBelow below_order; readers = readers_know IsBelow below_order }
