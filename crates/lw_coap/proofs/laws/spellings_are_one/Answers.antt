use Rattle.lw_coap.proofs.Messages.{one_message}
use Rattle.lw_coap.proofs.Written.{spelling_one}
use Rattle.lw_coap.proofs.laws.spellings_are_one.Goals as goal

pub returns-clause-bytes : goal.returns-clause-bytes
returns-clause-bytes c = spelling_one

pub returns-clause-message : goal.returns-clause-message
returns-clause-message c = one_message
