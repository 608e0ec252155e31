use Rattle.std.proofs.Common.{arith}
use Rattle.lw_delta.proofs.Parts.{both, first_fails, later_fails, given, held, broken, raised}
use Rattle.lw_delta.proofs.numbers.tag.Goals as goal

pub returns-in_err-value-clause-fault : goal.returns-in_err-value-clause-fault
returns-in_err-value-clause-fault c = raised _ c.from_residual.result c.from_residual.ensures.1 (first_fails _ c.in_err-value.ensures.fault)

pub returns-then-value-gt1-clause-fault : goal.returns-then-value-gt1-clause-fault
returns-then-value-gt1-clause-fault c = later_fails _ c.in_ok-value.ensures.found (broken _ (λ within. omega (arith, within, c.if-value-gt1.true)))

pub returns-clause-found : goal.returns-clause-found
returns-clause-found c = both _ c.in_ok-value.ensures.found (held _ c.if-value-gt1.false given)
