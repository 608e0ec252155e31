use Rattle.lw_coap.specs.inner.Writing.{message_bytes}
use Rattle.lw_coap.proofs.Written.{written_spells, spelled_fits}
use Rattle.lw_coap.proofs.laws.messages_that_fit_are_spelled.Goals as goal

pub returns-clause-spelled : goal.returns-clause-spelled
returns-clause-spelled c = λ message fits. (message_bytes message, written_spells message fits)

pub returns-clause-fits : goal.returns-clause-fits
returns-clause-fits c = spelled_fits
