use Rattle.std.proofs.Common.{◌∙◌, ap, rules}
use Rattle.std.proofs.lemmas.Fn.{filter_same}
use Rattle.lw_messaging.specs.PendingRequest.{OutgoingRequestsContent, has_other_purpose, without_purpose}
use Rattle.lw_messaging.proofs.outgoing_requests.OutgoingRequests.forget.Goals as goal

pub returns-clause-list : goal.returns-clause-list
returns-clause-list c =
    filter_same _ (has_other_purpose c.args.purpose) _ (λ x b q r. search rules) _ _ c.retain.ensures.filtered
    ∙ ap (λ (r : OutgoingRequestsContent). without_purpose r.list c.args.purpose) c.self.view_is
