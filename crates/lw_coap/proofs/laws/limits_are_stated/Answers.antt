use Rattle.std.proofs.Common.{rules}
use Rattle.lw_coap.proofs.laws.limits_are_stated.Goals as goal

pub returns-clause-max_token : goal.returns-clause-max_token
returns-clause-max_token c = search rules
