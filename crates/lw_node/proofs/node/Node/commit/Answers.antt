use Rattle.std.proofs.Common.{rules}
use Rattle.lw_node.proofs.node.Node.commit.Goals as goal

pub returns-in-Some-clause-left : goal.returns-in-Some-clause-left
returns-in-Some-clause-left c = search rules
