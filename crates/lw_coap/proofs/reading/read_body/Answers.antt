use Rattle.std.proofs.Common.{inr}
use Rattle.std.proofs.lemmas.Result.{err_from_is_err_and}
use Rattle.lw_coap.proofs.Walk.{walked_more, walked_fault}
use Rattle.lw_coap.proofs.reading.read_body.Goals as goal

pub loop-rest-preserved : goal.loop-rest-preserved
loop-rest-preserved c =
    let o = c.in_ok-option.option in
    let here = c.in_ok-option.ensures.found in
    rw (c.in_ok-push.ensures.items) (walked_more c.args.body.now c.loop-rest.options.items c.loop-rest.number c.loop-rest.rest.now here.0 o.rest.now (record { number = o.number; value = o.value.now }) c.loop-rest.invariant here.1 here.2)

pub returns-in_err-payload-clause-fault : goal.returns-in_err-payload-clause-fault
returns-in_err-payload-clause-fault c =
    let p = err_from_is_err_and c.from_residual-in_err-payload.result c.from_residual-in_err-payload.ensures.1 in
    rw (p.1, p.2) (inr (walked_fault c.args.body.now c.loop-rest.options.items c.loop-rest.number c.loop-rest.rest.now c.in_err-payload.field-0.0 c.loop-rest.invariant (c.in_err-payload.ensures.fault c.loop-rest.number)))
