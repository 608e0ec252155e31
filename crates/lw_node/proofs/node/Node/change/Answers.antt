use Rattle.std.proofs.Common.{rules}
use Rattle.lw_node.proofs.node.Node.change.Goals as goal

pub returns : goal.returns
returns c = search rules
