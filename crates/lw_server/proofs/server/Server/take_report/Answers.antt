use Rattle.lw_server.specs.Server.{ServerContent}
use Rattle.std.proofs.Common.{refl, ap}
use Rattle.lw_server.proofs.Steps.{is_report}
use Rattle.lw_server.proofs.Turns.{writes_same}
use Rattle.lw_server.proofs.server.Server.take_report.Goals as goal

pub returns-clause-report : goal.returns-clause-report
returns-clause-report g c =
    is_report _ _ _ _ _ _ _ _ _ _ _ c.self.view_is c.in_ok-reply.ensures.round c.in_ok-reply.ensures.counts
    c.in_ok-reply-2.ensures c.reply.view_is c.reserve.ensures.same c.publish_if_any.ensures refl refl

pub returns-in_err-reserve-clause-own : goal.returns-in_err-reserve-clause-own
returns-in_err-reserve-clause-own g c = writes_same _ _ (ap (λ (server : ServerContent). server.replica) c.self.view_is)
