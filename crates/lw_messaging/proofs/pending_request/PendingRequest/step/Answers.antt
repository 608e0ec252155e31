use Rattle.std.proofs.Common.{◌∙◌, ap, rules}
use Rattle.lw_messaging.specs.MessageIds.{counters_after}
use Rattle.lw_messaging.specs.PendingRequest.{PendingContent}
use Rattle.lw_messaging.proofs.PendingRequestLemmas.{waits}
use Rattle.lw_messaging.proofs.pending_request.PendingRequest.step.Goals as goal

pub returns-in_default-clause-stepped : goal.returns-in_default-clause-stepped
returns-in_default-clause-stepped c =
    let counters = c.next.ensures.counters ∙ ap (λ (w : PendingContent). counters_after c.args.ids.now c.args.now w.to) c.self.view_is in
    waits _ _ _ _ _ (search rules) (search rules) (search rules) counters c.postpone.ensures
