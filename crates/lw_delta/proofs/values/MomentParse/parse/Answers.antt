use Rattle.lw_delta.proofs.Parts.{both, first_fails, meant, raised}
use Rattle.lw_delta.proofs.values.MomentParse.parse.Goals as goal

pub returns-in_err-ms-clause-fault : goal.returns-in_err-ms-clause-fault
returns-in_err-ms-clause-fault c = raised _ c.from_residual.result c.from_residual.ensures.1 (first_fails _ c.in_err-ms.ensures.fault)

pub returns-clause-found : goal.returns-clause-found
returns-clause-found c = both _ c.in_ok-ms.ensures.found (meant _ c.in-Some.ensures.value)
