use Rattle.lw_stamp.specs.Moment.{ms_of}
use Rattle.lw_reg.specs.declared.watch.Watch.{Watch}
use Rattle.lw_reg.specs.Registration.{Registration}
use Rattle.lw_node.specs.Calls.{issuer_at}
use Rattle.lw_node.specs.inner.Calls.{Decided, Decides}
use Rattle.lw_node.specs.Effects.{ReportMeans, EndsWatch}
use Rattle.lw_node.specs.Node.{marks_in}
use Rattle.lw_node.proofs.Deciding.{if_ok, decides_unwatched, decides_told, decides_ended}
use Rattle.lw_node.proofs.node.Node.decide_report.Goals as goal

pub returns-in_default : goal.returns-in_default
returns-in_default c known h =
    decides_unwatched (issuer_at c.args.self.now (ms_of c.args.now)) (marks_in c.args.self.now.table.state known) c.args.report _ c.report.view_is _ _ c.deref.result.now c.deref.ensures.value
    (c.in_default.ensures.none known h) c.in_ok-reply.ensures c.reply.ensures

pub returns-then-not-goes_on : goal.returns-then-not-goes_on
returns-then-not-goes_on c =
    let place = issuer_at c.args.self.now (ms_of c.args.now) in
    let state = c.args.self.now.table.state in
    let x : Registration × Watch = (c.in-Some.view, c.in-Some.watch) in
    if_ok (Decides (EndsWatch place c.args.report x)) (Decided state (λ M. ReportMeans place M c.args.report)) c.decide_end.result
    (λ d ends known h. decides_ended place (marks_in state known) c.args.report _ c.report.view_is x c.deref.result.now c.deref.ensures.value (c.in-Some.ensures.some known h) d (λ goes. let on = c.goes_on.ensures.1 goes in absurd cc) ends)
    (c.decide_end.ensures (ms_of c.args.now))

pub returns : goal.returns
returns c known h =
    decides_told (issuer_at c.args.self.now (ms_of c.args.now)) (marks_in c.args.self.now.table.state known) c.args.report _ c.report.view_is (c.in-Some.view, c.in-Some.watch)
    c.deref.result.now c.deref.ensures.value (c.in-Some.ensures.some known h) _ _ (c.goes_on.ensures.0 c.if-not-goes_on.false) c.in_ok-notice_of.ensures c.in_ok-reply-2.ensures
