use Rattle.std.proofs.Common.{[], ◌∷◌, arith}
use Rattle.lw_resp.proofs.NumberLemmas.{no_number_line, number_returned, broken_number}
use Rattle.lw_resp.proofs.counts.number_line.Goals as goal

pub returns-in-None : goal.returns-in-None
returns-in-None c =
    no_number_line c.args.most c.args.bytes.now c.in-Whole.digits.now (10 ∷ c.in-Whole.rest.now) (omega arith) c.in-Whole.ensures c.in-None.ensures.none

pub returns-in-Some-number : goal.returns-in-Some-number
returns-in-Some-number c =
    number_returned c.args.most c.in-Some-number.field-0 c.args.bytes.now c.in-Returned.digits.now c.in-Returned.ensures.1 c.in-Some-number.ensures.found

pub returns-in-None-number : goal.returns-in-None-number
returns-in-None-number c =
    no_number_line c.args.most c.args.bytes.now c.in-Returned.digits.now [] (omega arith) c.in-Returned.ensures c.in-None-number.ensures.none

pub returns-in-Broken : goal.returns-in-Broken
returns-in-Broken c = broken_number c.args.most c.args.bytes.now (omega arith) c.in-Broken.ensures
