use Rattle.std.proofs.Common.{refl, take}
use Rattle.lw_delta.proofs.Parts.{both, first_fails, later_fails, meant, given, held, broken, held_fails, refuted, raised}
use Rattle.lw_delta.proofs.Paths.{are_path_numbers}
use Rattle.lw_delta.proofs.watches.path.Goals as goal

pub returns-in_err-count-clause-fault : goal.returns-in_err-count-clause-fault
returns-in_err-count-clause-fault c = raised _ c.from_residual.result c.from_residual.ensures.1 (first_fails _ c.in_err-count.ensures.fault)

pub returns-then-not-is_within-clause-fault : goal.returns-then-not-is_within-clause-fault
returns-then-not-is_within-clause-fault c = later_fails _ c.in_ok-count.ensures.found (broken _ (refuted c.if-not-is_within.ensures))

pub returns-in_err-numbers-clause-fault : goal.returns-in_err-numbers-clause-fault
returns-in_err-numbers-clause-fault c = raised _ c.from_residual-in_err-numbers.result c.from_residual-in_err-numbers.ensures.1 (later_fails _ c.in_ok-count.ensures.found (held_fails _ (c.if-not-is_within.ensures.0 refl) (first_fails _ c.in_err-numbers.ensures.fault)))

pub returns-then-not-is_above-clause-fault : goal.returns-then-not-is_above-clause-fault
returns-then-not-is_above-clause-fault c = later_fails _ c.in_ok-count.ensures.found (held_fails _ (c.if-not-is_within.ensures.0 refl) (later_fails _ c.in_ok-numbers.ensures.found (later_fails _ (meant _ c.in-Some.ensures.value) (broken _ (refuted c.if-not-is_above.ensures)))))

pub returns-clause-found : goal.returns-clause-found
returns-clause-found c = both _ c.in_ok-count.ensures.found (held _ (c.if-not-is_within.ensures.0 refl) (both _ c.in_ok-numbers.ensures.found (both _ (meant _ c.in-Some.ensures.value) (held _ (c.if-not-is_above.ensures.0 refl) given))))

pub unreachable-requires : goal.unreachable-requires
unreachable-requires c = refuted c.in_default.ensures.accepted (are_path_numbers c.in_ok-count.count c.in_ok-count.rest.now (take c.in_ok-count.count c.in_ok-numbers.numbers) c.in_ok-numbers.rest.now c.in_ok-numbers.ensures.found (c.if-not-is_within.ensures.0 refl))
