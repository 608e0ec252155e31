use Rattle.std.proofs.Common.{rules}
use Rattle.lw_coap.proofs.laws.option_numbers_are_registered.Goals as goal

pub returns-clause-proxy_scheme : goal.returns-clause-proxy_scheme
returns-clause-proxy_scheme c = search rules
