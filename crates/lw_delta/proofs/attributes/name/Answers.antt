use Rattle.std.proofs.Common.{refl, sym, arith, ◌∙◌}
use mathlib.Core.Bool.{true≢false}
use Rattle.lw_delta.proofs.Parts.{both, first_fails, later_fails, given, held, broken, held_fails, refuted, raised}
use Rattle.lw_delta.proofs.attributes.name.Goals as goal

pub returns-in_err-count-clause-fault : goal.returns-in_err-count-clause-fault
returns-in_err-count-clause-fault c = raised _ c.from_residual.result c.from_residual.ensures.1 (first_fails _ c.in_err-count.ensures.fault)

pub returns-then-count-eq0-clause-fault : goal.returns-then-count-eq0-clause-fault
returns-then-count-eq0-clause-fault c = later_fails _ c.in_ok-count.ensures.found (broken _ (λ some. omega (arith, some, c.if-count-eq0.true)))

pub returns-in_err-name-clause-fault : goal.returns-in_err-name-clause-fault
returns-in_err-name-clause-fault c =
    raised _ c.from_residual-in_err-name.result c.from_residual-in_err-name.ensures.1
    (later_fails _ c.in_ok-count.ensures.found (held_fails _ (omega (arith, c.if-count-eq0.false)) (first_fails _ c.in_err-name.ensures.fault)))

pub returns-then-not-is_attribute_name-clause-fault : goal.returns-then-not-is_attribute_name-clause-fault
returns-then-not-is_attribute_name-clause-fault c =
    later_fails _ c.in_ok-count.ensures.found (held_fails _ (omega (arith, c.if-count-eq0.false))
    (later_fails _ c.in_ok-name.ensures.found (broken _ (λ h. true≢false (sym h ∙ sym c.if-not-is_attribute_name.ensures)))))

pub returns-then-not-is_above-clause-fault : goal.returns-then-not-is_above-clause-fault
returns-then-not-is_above-clause-fault c =
    later_fails _ c.in_ok-count.ensures.found (held_fails _ (omega (arith, c.if-count-eq0.false))
    (later_fails _ c.in_ok-name.ensures.found (held_fails _ (sym c.if-not-is_attribute_name.ensures) (broken _ (refuted c.if-not-is_above.ensures)))))

pub returns-clause-found : goal.returns-clause-found
returns-clause-found c =
    both _ c.in_ok-count.ensures.found (held _ (omega (arith, c.if-count-eq0.false))
    (both _ c.in_ok-name.ensures.found (held _ (sym c.if-not-is_attribute_name.ensures) (held _ (c.if-not-is_above.ensures.0 refl) given))))
