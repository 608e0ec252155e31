use Rattle.lw_delta.proofs.Parts.{both, first_fails, later_fails, given, raised}
use Rattle.lw_delta.proofs.attributes.attribute.Goals as goal

pub returns-in_err-name-clause-fault : goal.returns-in_err-name-clause-fault
returns-in_err-name-clause-fault c = raised _ c.from_residual.result c.from_residual.ensures.1 (first_fails _ c.in_err-name.ensures.fault)

pub returns-in_err-stamp-clause-fault : goal.returns-in_err-stamp-clause-fault
returns-in_err-stamp-clause-fault c = raised _ c.from_residual-in_err-stamp.result c.from_residual-in_err-stamp.ensures.1 (later_fails _ c.in_ok-name.ensures.found (first_fails _ (first_fails _ c.in_err-stamp.ensures.fault)))

pub returns-in_err-value-clause-fault : goal.returns-in_err-value-clause-fault
returns-in_err-value-clause-fault c =
    raised _ c.from_residual-in_err-value.result c.from_residual-in_err-value.ensures.1
    (later_fails _ c.in_ok-name.ensures.found (first_fails _ (later_fails _ c.in_ok-stamp.ensures.found (first_fails _ c.in_err-value.ensures.fault))))

pub returns-clause-found : goal.returns-clause-found
returns-clause-found c = both _ c.in_ok-name.ensures.found (both _ (both _ c.in_ok-stamp.ensures.found (both _ c.in_ok-value.ensures.found given)) given)
