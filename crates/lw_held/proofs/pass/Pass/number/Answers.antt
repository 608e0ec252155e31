use Rattle.std.proofs.Common.{rules}
use Rattle.lw_held.proofs.pass.Pass.number.Goals as goal

pub returns : goal.returns
returns c = search rules
