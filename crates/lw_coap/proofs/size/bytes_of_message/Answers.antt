use Rattle.std.proofs.Common.{rules}
use Rattle.lw_coap.proofs.size.bytes_of_message.Goals as goal

pub returns-clause-none : goal.returns-clause-none
returns-clause-none c = search rules
