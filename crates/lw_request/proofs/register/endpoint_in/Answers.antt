use Rattle.std.proofs.Common.{rules}
use Rattle.lw_request.proofs.register.endpoint_in.Goals as goal

pub returns-in-Some-clause-ok : goal.returns-in-Some-clause-ok
returns-in-Some-clause-ok c = search rules
