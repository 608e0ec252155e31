use Rattle.std.proofs.Common.{rules}
use Rattle.lw_call.proofs.taken.Taken.copy.Goals as goal

pub returns-clause-value : goal.returns-clause-value
returns-clause-value c = search rules
