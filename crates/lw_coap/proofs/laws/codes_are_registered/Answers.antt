use Rattle.std.proofs.Common.{rules}
use Rattle.lw_coap.proofs.laws.codes_are_registered.Goals as goal

pub returns-clause-not_found : goal.returns-clause-not_found
returns-clause-not_found c = search rules
