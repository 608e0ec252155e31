use Rattle.std.proofs.Common.{arith}
use Rattle.lw_resp.proofs.NumberLemmas.{is_empty_list, not_empty_list, nothing_come, number_come, no_number_come}
use Rattle.lw_resp.proofs.counts.begun_number.Goals as goal

pub returns-then-is_empty : goal.returns-then-is_empty
returns-then-is_empty c = nothing_come c.args.most c.args.digits.now (is_empty_list c.args.digits.now c.if-is_empty.ensures)

pub returns-in-Some : goal.returns-in-Some
returns-in-Some c = number_come c.args.most c.in-Some.field-0 c.args.digits.now c.in-Some.ensures.found.0 c.in-Some.ensures.found.1

pub returns-in-None : goal.returns-in-None
returns-in-None c =
    no_number_come c.args.most c.args.digits.now (omega arith) c.requires (not_empty_list c.args.digits.now c.if-is_empty.ensures) c.in-None.ensures.none
