use Rattle.std.proofs.Common.{refl, arith}
use Rattle.lw_delta.proofs.Parts.{both, first_fails, later_fails, given, held, broken, held_fails, refuted, raised}
use Rattle.lw_delta.proofs.Again.{behind, past, must_hold}
use Rattle.lw_delta.proofs.Decided.{bytes_decided}
use Rattle.lw_delta.proofs.Grammar.{number16_decided}
use Rattle.lw_delta.proofs.Kept.{bytes_length}
use Rattle.lw_delta.proofs.values.LentObjectsParse.parse.Goals as goal

pub returns-in_err-count-clause-fault : goal.returns-in_err-count-clause-fault
returns-in_err-count-clause-fault c = raised _ c.from_residual.result c.from_residual.ensures.1 (first_fails _ c.in_err-count.ensures.fault)

pub returns-then-not-is_within-clause-fault : goal.returns-then-not-is_within-clause-fault
returns-then-not-is_within-clause-fault c = later_fails _ c.in_ok-count.ensures.found (broken _ (refuted c.if-not-is_within.ensures))

pub returns-in_err-bytes-clause-fault : goal.returns-in_err-bytes-clause-fault
returns-in_err-bytes-clause-fault c = raised _ c.from_residual-in_err-bytes.result c.from_residual-in_err-bytes.ensures.1 (later_fails _ c.in_ok-count.ensures.found (held_fails _ (c.if-not-is_within.ensures.0 refl) (first_fails _ c.in_err-bytes.ensures.fault)))

pub returns-then-not-is_list-clause-fault : goal.returns-then-not-is_list-clause-fault
returns-then-not-is_list-clause-fault c = later_fails _ c.in_ok-count.ensures.found (held_fails _ (c.if-not-is_within.ensures.0 refl) (later_fails _ c.in_ok-bytes.ensures.found (broken _ (refuted c.if-not-is_list.ensures))))

pub returns-clause-found : goal.returns-clause-found
returns-clause-found c = both _ c.in_ok-count.ensures.found (held _ (c.if-not-is_within.ensures.0 refl) (both _ c.in_ok-bytes.ensures.found (held _ (c.if-not-is_list.ensures.0 refl) given)))

pub is_list-requires : goal.is_list-requires
is_list-requires c = λ again. must_hold _ _ (behind _ (bytes_decided _) c.in_ok-bytes.ensures.found (past _ _ (behind _ number16_decided c.in_ok-count.ensures.found (c.requires again))))

pub invariant_of-result : goal.invariant_of-result
invariant_of-result c = (c.if-not-is_list.ensures.0 refl, omega (arith, (c.if-not-is_within.ensures.0 refl).1, bytes_length _ _ _ _ c.in_ok-bytes.ensures.found))
