use Rattle.std.proofs.Common.{ap, ◌∙◌}
use Rattle.lw_coap.specs.Message.{MessageContent}
use Rattle.lw_request.specs.Steps.{steps}
use Rattle.lw_request.specs.Meaning.{MeansBy, Means, role_of}
use Rattle.lw_request.proofs.Meanings.{understands_as, if_not_understood, request_means}
use Rattle.lw_request.proofs.understanding.understand_lent.Goals as goal

pub returns-in-Request-clause-memory : goal.returns-in-Request-clause-memory
returns-in-Request-clause-memory c =
    let m = c.args.message.now in
    let role = c.of.ensures ∙ ap (λ (m : MessageContent). role_of m.kind m.code) c.message.view_is in
    if_not_understood (Means m) c.understand_request.result
    (understands_as (MeansBy steps m) (Means m) c.understand_request.result (λ asked. request_means m c.of.result asked role c.in-Request.is) c.understand_request.ensures)
