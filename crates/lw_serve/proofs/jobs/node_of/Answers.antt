use Rattle.std.proofs.Common.{rules}
use Rattle.lw_serve.proofs.jobs.node_of.Goals as goal

pub returns : goal.returns
returns c = search rules
