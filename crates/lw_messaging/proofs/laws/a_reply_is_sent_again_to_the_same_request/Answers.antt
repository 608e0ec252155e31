use Rattle.lw_messaging.proofs.RepeatLemmas.{only, each}
use Rattle.lw_messaging.proofs.laws.a_reply_is_sent_again_to_the_same_request.Goals as goal

pub returns : goal.returns
returns c = record { only = only; each = each }
