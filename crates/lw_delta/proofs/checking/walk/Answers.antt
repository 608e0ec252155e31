use Rattle.std.proofs.Common.{refl, inl, inr, List, ℕ, subst}
use Rattle.lw_delta.specs.Part.{Found}
use Rattle.lw_delta.specs.Format.{slots}
use Rattle.lw_delta.proofs.Answering.{has_trailing, none_left}
use Rattle.lw_delta.proofs.Parts.{both, first_fails, later_fails, given, raised}
use Rattle.lw_delta.proofs.checking.walk.Goals as goal

pub returns-in_err-form-clause-fault : goal.returns-in_err-form-clause-fault
returns-in_err-form-clause-fault c = raised _ c.from_residual.result c.from_residual.ensures.1 (inl (first_fails _ c.in_err-form.ensures.fault))

pub returns-in_err-slot_count-clause-fault : goal.returns-in_err-slot_count-clause-fault
returns-in_err-slot_count-clause-fault c = raised _ c.from_residual-in_err-slot_count.result c.from_residual-in_err-slot_count.ensures.1 (inl (later_fails _ c.in_ok-form.ensures.found (first_fails _ c.in_err-slot_count.ensures.fault)))

pub returns-then-not-is_empty-clause-fault : goal.returns-then-not-is_empty-clause-fault
returns-then-not-is_empty-clause-fault c =
    let s = c.in_ok-slot_count.ensures.found in
    inr (refl, has_trailing c.args.bytes.now (c.in_ok-form.clock, s.0) c.in_ok-slot_count.rest.now (both _ c.in_ok-form.ensures.found (both _ s.1 given)) c.if-not-is_empty.ensures)

pub returns-clause-found : goal.returns-clause-found
returns-clause-found c =
    let s = c.in_ok-slot_count.ensures.found in
    record {
      ss = s.0;
      begun = c.in_ok-form.ensures.found;
      found = subst (λ (x : List ℕ). Found (slots c.in_ok-form.form c.in_ok-form.clock) c.in_ok-form.slots.now s.0 x) (none_left c.in_ok-slot_count.rest.now c.if-not-is_empty.ensures) s.1;
      counted = s.2;
    }
