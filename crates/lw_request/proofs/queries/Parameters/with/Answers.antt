use Rattle.std.proofs.Common.{rules}
use Rattle.lw_request.proofs.queries.Parameters.with.Goals as goal

pub returns-in-Err-clause-texts : goal.returns-in-Err-clause-texts
returns-in-Err-clause-texts c = search rules

pub returns-in-Err-clause-given : goal.returns-in-Err-clause-given
returns-in-Err-clause-given c = search rules
