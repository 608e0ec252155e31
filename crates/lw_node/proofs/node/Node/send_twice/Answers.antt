use Rattle.std.proofs.Common.{rules}
use Rattle.lw_node.proofs.node.Node.send_twice.Goals as goal

pub returns-clause-same : goal.returns-clause-same
returns-clause-same c = search rules
