use Rattle.std.proofs.Common.{◌++◌, ◌∷◌, [], arith, length-append}
use Rattle.std.proofs.lemmas.Result.{err_from_is_err_and}
use Rattle.lw_coap.proofs.Walk.{walked_more, walked_fault, option_takes}
use Rattle.lw_coap.proofs.reading.check_body.Goals as goal

pub overflow_add-count : goal.overflow_add-count
overflow_add-count c =
    let o = c.in_ok-option.option in
    let here = c.in_ok-option.ensures.found in
    omega (arith, c.loop-rest.invariant.3, option_takes c.loop-rest.number here.0 c.loop-rest.rest.now o.rest.now (record { number = o.number; value = o.value.now }) here.1 here.2)

pub loop-rest-preserved : goal.loop-rest-preserved
loop-rest-preserved c =
    let o = c.in_ok-option.option in
    let here = c.in_ok-option.ensures.found in
    let so_far = c.loop-rest.invariant in (
      so_far.0 ++ record { number = o.number; value = o.value.now } ∷ [],
      walked_more c.args.body.now so_far.0 c.loop-rest.number c.loop-rest.rest.now here.0 o.rest.now (record { number = o.number; value = o.value.now }) so_far.1 here.1 here.2,
      omega (arith, so_far.2, length-append so_far.0 (record { number = o.number; value = o.value.now } ∷ [])),
      omega (arith, so_far.3, option_takes c.loop-rest.number here.0 c.loop-rest.rest.now o.rest.now (record { number = o.number; value = o.value.now }) here.1 here.2),
    )

pub returns-in_err-payload_in-clause-fault : goal.returns-in_err-payload_in-clause-fault
returns-in_err-payload_in-clause-fault c =
    let p = err_from_is_err_and c.from_residual-in_err-payload_in.result c.from_residual-in_err-payload_in.ensures.1 in
    let so_far = c.loop-rest.invariant in
    rw (p.1, p.2) (walked_fault c.args.body.now so_far.0 c.loop-rest.number c.loop-rest.rest.now c.in_err-payload_in.field-0.0 so_far.1 (c.in_err-payload_in.ensures.fault c.loop-rest.number))
