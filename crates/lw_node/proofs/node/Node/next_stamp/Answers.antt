use Rattle.std.proofs.Common.{rules}
use Rattle.lw_node.proofs.node.Node.next_stamp.Goals as goal

pub returns-clause-stamp : goal.returns-clause-stamp
returns-clause-stamp c = search rules
