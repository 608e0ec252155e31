use Rattle.std.proofs.Common.{rules}
use Rattle.lw_delta.proofs.writing.put_v6.Goals as goal

pub returns-clause-written : goal.returns-clause-written
returns-clause-written c = search rules
