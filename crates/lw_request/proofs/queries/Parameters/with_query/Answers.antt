use Rattle.std.proofs.Common.{rules}
use Rattle.lw_request.proofs.queries.Parameters.with_query.Goals as goal

pub returns-in-ep : goal.returns-in-ep
returns-in-ep c = search rules

pub returns-in-sms : goal.returns-in-sms
returns-in-sms c = search rules
