use Rattle.lw_delta.proofs.Parts.{both, first_fails, later_fails, given, raised}
use Rattle.lw_delta.proofs.checking.header.Goals as goal

pub returns-in_err-form-clause-fault : goal.returns-in_err-form-clause-fault
returns-in_err-form-clause-fault c = raised _ c.from_residual.result c.from_residual.ensures.1 (first_fails _ c.in_err-form.ensures.fault)

pub returns-in_err-clock-clause-fault : goal.returns-in_err-clock-clause-fault
returns-in_err-clock-clause-fault c = raised _ c.from_residual-in_err-clock.result c.from_residual-in_err-clock.ensures.1 (later_fails _ c.in_ok-form.ensures.found (first_fails _ c.in_err-clock.ensures.fault))

pub returns-clause-found : goal.returns-clause-found
returns-clause-found c = both _ c.in_ok-form.ensures.found (both _ c.in_ok-clock.ensures.found given)
