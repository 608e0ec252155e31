use Rattle.lw_messaging.proofs.PendingRequestLemmas.{timeout_is_small}
use Rattle.lw_messaging.proofs.pending_request.timeout.Goals as goal

pub returns-clause-most : goal.returns-clause-most
returns-clause-most c = timeout_is_small _ _ c.requires
