use Rattle.std.proofs.Common.{◌∙◌, ap, length, refl, true}
use Rattle.lw_server.specs.Devices.{Check}
use Rattle.lw_server.specs.Server.{ServerContent}
use Rattle.lw_server.proofs.Reached.{if_ok}
use Rattle.lw_server.proofs.Steps.{kept_first, left_behind, report_behind}
use Rattle.lw_server.proofs.Turns.{writes_same}
use Rattle.lw_server.proofs.server.Server.report_of.Goals as goal

pub returns-then-is_ok-clause-report : goal.returns-then-is_ok-clause-report
returns-then-is_ok-clause-report g c =
    if_ok _ (report_behind c.args.from c.args.bytes true (Check c.args.notice) c.args.self.now _ _ _ _
    (left_behind _ _ _ _ _ c.self.view_is c.in_ok-leave.ensures.left refl)
    (c.tasks_left-count.ensures ∙ ap (λ (server : ServerContent). length server.devices.tasks) c.self.view_is)
    (kept_first _ _ _ _ c.self-2.view_is c.keep_first.ensures refl)) c.take_report-taken.ensures.report

pub returns-in_err-leave-clause-own : goal.returns-in_err-leave-clause-own
returns-in_err-leave-clause-own g c = writes_same _ _ (ap (λ (server : ServerContent). server.replica) c.self.view_is)
