use Rattle.std.proofs.Common.{arith}
use Rattle.lw_delta.proofs.Kept.{text_length}
use Rattle.lw_delta.proofs.Parts.{both, first_fails, later_fails, held, broken, held_fails, raised}
use Rattle.lw_delta.proofs.values.LentNumberParse.parse.Goals as goal

pub returns-in_err-count-clause-fault : goal.returns-in_err-count-clause-fault
returns-in_err-count-clause-fault c = raised _ c.from_residual.result c.from_residual.ensures.1 (first_fails _ c.in_err-count.ensures.fault)

pub returns-then-count-gt251-clause-fault : goal.returns-then-count-gt251-clause-fault
returns-then-count-gt251-clause-fault c = later_fails _ c.in_ok-count.ensures.found (broken _ (λ within. omega (arith, within, c.if-count-gt251.true)))

pub returns-in_err-text-clause-fault : goal.returns-in_err-text-clause-fault
returns-in_err-text-clause-fault c = raised _ c.from_residual-in_err-text.result c.from_residual-in_err-text.ensures.1 (later_fails _ c.in_ok-count.ensures.found (held_fails _ c.if-count-gt251.false c.in_err-text.ensures.fault))

pub invariant_of-result : goal.invariant_of-result
invariant_of-result c = omega (arith, c.if-count-gt251.false, text_length _ _ _ _ c.in_ok-text.ensures.found)

pub returns-clause-found : goal.returns-clause-found
returns-clause-found c = both _ c.in_ok-count.ensures.found (held _ c.if-count-gt251.false c.in_ok-text.ensures.found)
