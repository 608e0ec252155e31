use Rattle.lw_delta.proofs.Parts.{both, first_fails, later_fails, held, broken, meant, raised}
use Rattle.lw_delta.proofs.checking.magic.Goals as goal

pub returns-in_err-magic-clause-fault : goal.returns-in_err-magic-clause-fault
returns-in_err-magic-clause-fault c = raised _ c.from_residual.result c.from_residual.ensures.1 (first_fails _ c.in_err-magic.ensures.fault)

pub returns-in_default-clause-fault : goal.returns-in_default-clause-fault
returns-in_default-clause-fault c = later_fails _ c.in_ok-magic.ensures.found (broken _ (λ known. c.in_default.not-Some known.0 (c.form_of.ensures.only known.0 known.1)))

pub returns-clause-found : goal.returns-clause-found
returns-clause-found c = both _ c.in_ok-magic.ensures.found (held _ (c.in-Some.form, c.in-Some.ensures.known) (meant _ c.in-Some.ensures.known))
