use Rattle.lw_messaging.proofs.MessageIdLemmas.{apart}
use Rattle.lw_messaging.proofs.laws.message_ids_are_apart.Goals as goal

pub returns : goal.returns
returns c = apart
