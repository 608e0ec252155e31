use Rattle.std.proofs.Common.{arith}
use Rattle.lw_delta.proofs.Parts.{both, first_fails, later_fails, meant, held, broken, raised}
use Rattle.lw_delta.proofs.values.BaseParse.parse.Goals as goal

pub returns-in_err-bits-clause-fault : goal.returns-in_err-bits-clause-fault
returns-in_err-bits-clause-fault c = raised _ c.from_residual.result c.from_residual.ensures.1 (first_fails _ c.in_err-bits.ensures.fault)

pub returns-then-bits-gt3-clause-fault : goal.returns-then-bits-gt3-clause-fault
returns-then-bits-gt3-clause-fault c = later_fails _ c.in_ok-bits.ensures.found (broken _ (λ within. omega (arith, within, c.if-bits-gt3.true)))

pub returns-clause-found : goal.returns-clause-found
returns-clause-found c = both _ c.in_ok-bits.ensures.found (held _ c.if-bits-gt3.false (meant _ c.base_of.ensures))
