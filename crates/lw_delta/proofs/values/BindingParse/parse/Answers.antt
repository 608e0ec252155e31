use Rattle.std.proofs.Common.{refl}
use Rattle.lw_delta.proofs.Parts.{both, first_fails, later_fails, meant, held, broken, held_fails, refuted, raised}
use Rattle.lw_delta.proofs.values.BindingParse.parse.Goals as goal

pub returns-in_err-count-clause-fault : goal.returns-in_err-count-clause-fault
returns-in_err-count-clause-fault c = raised _ c.from_residual.result c.from_residual.ensures.1 (first_fails _ c.in_err-count.ensures.fault)

pub returns-then-not-is_within-clause-fault : goal.returns-then-not-is_within-clause-fault
returns-then-not-is_within-clause-fault c = later_fails _ c.in_ok-count.ensures.found (broken _ (refuted c.if-not-is_within.ensures))

pub returns-in_err-letters-clause-fault : goal.returns-in_err-letters-clause-fault
returns-in_err-letters-clause-fault c = raised _ c.from_residual-in_err-letters.result c.from_residual-in_err-letters.ensures.1 (later_fails _ c.in_ok-count.ensures.found (held_fails _ (c.if-not-is_within.ensures.0 refl) (first_fails _ c.in_err-letters.ensures.fault)))

pub returns-in_default-clause-fault : goal.returns-in_default-clause-fault
returns-in_default-clause-fault c = later_fails _ c.in_ok-count.ensures.found (held_fails _ (c.if-not-is_within.ensures.0 refl) (later_fails _ c.in_ok-letters.ensures.found (broken _ (refuted c.in_default.ensures.accepted))))

pub returns-clause-found : goal.returns-clause-found
returns-clause-found c = both _ c.in_ok-count.ensures.found (held _ (c.if-not-is_within.ensures.0 refl) (both _ c.in_ok-letters.ensures.found (held _ (c.in-Some.ensures.accepted.0 refl) (meant _ c.in-Some.ensures.value))))
