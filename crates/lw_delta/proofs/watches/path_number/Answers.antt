use Rattle.std.proofs.Common.{arith}
use Rattle.lw_delta.proofs.Parts.{both, first_fails, later_fails, given, held, broken, raised}
use Rattle.lw_delta.proofs.watches.path_number.Goals as goal

pub returns-in_err-number-clause-fault : goal.returns-in_err-number-clause-fault
returns-in_err-number-clause-fault c = raised _ c.from_residual.result c.from_residual.ensures.1 (first_fails _ c.in_err-number.ensures.fault)

pub returns-then-number-gt-MAX_NUMBER-clause-fault : goal.returns-then-number-gt-MAX_NUMBER-clause-fault
returns-then-number-gt-MAX_NUMBER-clause-fault c = later_fails _ c.in_ok-number.ensures.found (broken _ (λ within. omega (arith, within, c.if-number-gt-MAX_NUMBER.true)))

pub returns-clause-found : goal.returns-clause-found
returns-clause-found c = both _ c.in_ok-number.ensures.found (held _ c.if-number-gt-MAX_NUMBER.false given)
