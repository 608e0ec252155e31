use Rattle.lw_delta.proofs.Parts.{first_fails, optional_none, optional_some, optional_fails, raised}
use Rattle.lw_delta.proofs.attributes.next_attribute.Goals as goal

pub returns-in_err-present-clause-fault : goal.returns-in_err-present-clause-fault
returns-in_err-present-clause-fault c = raised _ c.from_residual.result c.from_residual.ensures.1 (first_fails _ c.in_err-present.ensures.fault)

pub returns-then-not-present-clause-found : goal.returns-then-not-present-clause-found
returns-then-not-present-clause-found c = optional_none _ c.if-not-present.true c.in_ok-present.ensures.found

pub returns-in_err-attribute-clause-fault : goal.returns-in_err-attribute-clause-fault
returns-in_err-attribute-clause-fault c = raised _ c.from_residual-in_err-attribute.result c.from_residual-in_err-attribute.ensures.1 (optional_fails c.if-not-present.false c.in_ok-present.ensures.found c.in_err-attribute.ensures.fault)

pub returns-clause-found : goal.returns-clause-found
returns-clause-found c = optional_some c.if-not-present.false c.in_ok-present.ensures.found c.in_ok-attribute.ensures.found
