use Rattle.lw_messaging.proofs.RequestLemmas.{unread}
use Rattle.lw_messaging.proofs.reading.read_lent.Goals as goal

pub returns-in_default : goal.returns-in_default
returns-in_default c = λ m s. unread c.decode_lent.result c.in-Err.fault m c.in-Err.is c.in_default.not-NoMemory
    (c.decode_lent.ensures.only m s)
