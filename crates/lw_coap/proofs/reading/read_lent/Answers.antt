use Rattle.std.proofs.Common.{inl, inr}
use Rattle.lw_coap.specs.Message.{MessageContent}
use Rattle.lw_coap.proofs.Messages.{whole_message, body_fault}
use Rattle.lw_coap.proofs.reading.read_lent.Goals as goal

pub returns-in-Err : goal.returns-in-Err
returns-in-Err c =
    let f = c.in_ok-frame.frame in
    let body = c.in_ok-count.ensures.whole in
    let m : MessageContent = record { kind = f.kind; code = f.code; mid = f.mid; token = f.token.now; options = body.0; payload = body.1 } in
    elim c.in-Err.ensures.fault [
      | inl want ↦ inl (want, m, whole_message c.args.bytes.now f.kind f.code f.mid f.token.now f.body.now body.0 body.1 c.in_ok-frame.ensures.found body.2)
      | inr fault ↦ inr (body_fault c.args.bytes.now f.kind f.code f.mid f.token.now f.body.now c.in-Err.fault c.in_ok-frame.ensures.found fault)
    ]
