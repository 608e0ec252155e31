use Rattle.lw_delta.proofs.Again.{behind_tag, set_found}
use Rattle.lw_delta.proofs.Parts.{first_fails, optional_none, optional_some, optional_fails, raised}
use Rattle.lw_delta.proofs.slots.next_slot.Goals as goal

pub returns-in_err-present-clause-fault : goal.returns-in_err-present-clause-fault
returns-in_err-present-clause-fault c = raised _ c.from_residual.result c.from_residual.ensures.1 (first_fails _ c.in_err-present.ensures.fault)

pub returns-then-not-present-clause-found : goal.returns-then-not-present-clause-found
returns-then-not-present-clause-found c = optional_none _ c.if-not-present.true c.in_ok-present.ensures.found

pub returns-in_err-slot-clause-fault : goal.returns-in_err-slot-clause-fault
returns-in_err-slot-clause-fault c = raised _ c.from_residual-in_err-slot.result c.from_residual-in_err-slot.ensures.1 (optional_fails c.if-not-present.false c.in_ok-present.ensures.found c.in_err-slot.ensures.fault)

pub returns-clause-found : goal.returns-clause-found
returns-clause-found c =
    let s = c.in_ok-slot.ensures.found in
    record { more = s.more; holds = s.holds; found = optional_some c.if-not-present.false c.in_ok-present.ensures.found s.found }

pub slot-requires : goal.slot-requires
slot-requires c = λ again. set_found c.if-not-present.false (behind_tag _ c.in_ok-present.ensures.found (c.requires again))
