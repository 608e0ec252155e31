use Rattle.lw_delta.proofs.Parts.{both, first_fails, later_fails, meant, held, broken, raised}
use Rattle.lw_delta.proofs.values.text.Goals as goal

pub returns-in_err-front-clause-fault : goal.returns-in_err-front-clause-fault
returns-in_err-front-clause-fault c = raised _ c.from_residual.result c.from_residual.ensures.1 (first_fails _ c.in_err-front.ensures.fault)

pub returns-in_default-clause-fault : goal.returns-in_default-clause-fault
returns-in_default-clause-fault c = later_fails _ c.in_ok-front.ensures.found (broken _ c.in_default.ensures.cases.0)

pub returns-clause-found : goal.returns-clause-found
returns-clause-found c = both _ c.in_ok-front.ensures.found (held _ c.in-Ok.ensures.cases.1 (meant _ c.in-Ok.ensures.cases.0))
