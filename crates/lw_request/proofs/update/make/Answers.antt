use Rattle.std.proofs.Common.{rules}
use Rattle.lw_request.proofs.update.make.Goals as goal

pub returns-clause-ok : goal.returns-clause-ok
returns-clause-ok c = search rules
