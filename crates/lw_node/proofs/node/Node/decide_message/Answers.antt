use Rattle.std.proofs.Common.{refl}
use Rattle.lw_stamp.specs.Moment.{ms_of}
use Rattle.lw_node.specs.Calls.{issuer_at}
use Rattle.lw_node.specs.inner.Calls.{Decided}
use Rattle.lw_node.specs.Effects.{MessageMeans}
use Rattle.lw_node.specs.Node.{marks_in}
use Rattle.lw_node.proofs.Deciding.{if_ok}
use Rattle.lw_node.proofs.Messages.{decides_register, decides_update, decides_ping, decides_refusal, decides_reject}
use Rattle.lw_node.proofs.node.Node.decide_message.Goals as goal

pub returns-in-Register : goal.returns-in-Register
returns-in-Register c =
    let place = issuer_at c.args.self.now (ms_of c.args.now) in
    let state = c.args.self.now.table.state in
    let m = c.args.message.now in
    let a = c.in-Register in
    if_ok _ (Decided state (λ M. MessageMeans place M c.args.from m)) c.decide_register.result
    (λ d h known is. decides_register place (marks_in state known) c.args.from m c.in_ok-endpoint.field-0 c.in_ok-endpoint.ensures.meaning d a.endpoint a.version a.queue c.args.now a.settings a.is refl h)
    (c.decide_register.ensures (ms_of c.args.now))

pub returns-in-Update : goal.returns-in-Update
returns-in-Update c =
    let place = issuer_at c.args.self.now (ms_of c.args.now) in
    let state = c.args.self.now.table.state in
    let m = c.args.message.now in
    let a = c.in-Update in
    if_ok _ (Decided state (λ M. MessageMeans place M c.args.from m)) c.decide_named.result
    (λ d h known is. decides_update place (marks_in state known) c.args.from m c.in_ok-endpoint.field-0 c.in_ok-endpoint.ensures.meaning d a.id c.args.now a.settings a.is refl (h known is))
    c.decide_named.ensures

pub returns-in_ok-reset_to-in-Ping : goal.returns-in_ok-reset_to-in-Ping
returns-in_ok-reset_to-in-Ping c known is =
    decides_ping (issuer_at c.args.self.now (ms_of c.args.now)) (marks_in c.args.self.now.table.state known) c.args.from c.args.message.now c.in_ok-endpoint.field-0 c.in_ok-endpoint.ensures.meaning _ _ c.reply.ensures _ c.message.view_is c.in-Ping.is c.in_ok-reset_to-in-Ping.ensures

pub returns-in-Refuse : goal.returns-in-Refuse
returns-in-Refuse c =
    let place = issuer_at c.args.self.now (ms_of c.args.now) in
    let state = c.args.self.now.table.state in
    if_ok _ (Decided state (λ M. MessageMeans place M c.args.from c.args.message.now)) c.refused.result
    (λ d x known is. decides_refusal place (marks_in state known) c.args.from c.args.message.now c.in_ok-endpoint.field-0 c.in_ok-endpoint.ensures.meaning d d.reply x.1 c.in-Refuse.refusal c.code.result c.in-Refuse.is c.code.ensures x.0)
    c.refused.ensures

pub returns-in_ok-rejected-in-Reject : goal.returns-in_ok-rejected-in-Reject
returns-in_ok-rejected-in-Reject c known is =
    decides_reject (issuer_at c.args.self.now (ms_of c.args.now)) (marks_in c.args.self.now.table.state known) c.args.from c.args.message.now c.in_ok-endpoint.field-0 c.in_ok-endpoint.ensures.meaning _ _ c.reply-in-Reject.ensures _ c.message.view_is c.in-Reject.is c.in_ok-rejected-in-Reject.ensures
