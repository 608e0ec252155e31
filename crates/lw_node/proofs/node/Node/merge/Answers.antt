use Rattle.std.proofs.Common.{◌≡◌, ◌<◌, ◌^◌, [], Err, sym, ap, subst, refl, ◌∙◌}
use Rattle.std.specs.Prelude.{max}
use Rattle.lw_stamp.specs.Clock.{counter_of}
use Rattle.lw_delta.specs.Delta.{DeltaContent}
use Rattle.lw_delta.proofs.Answering.{one_delta, apart}
use Rattle.lw_delta.proofs.Fitting.{spelled_fits}
use Rattle.lw_node.specs.Exchange.{Merges, IsLeastOfBoth, known_by, known_from}
use Rattle.lw_node.specs.Node.{NodeContent}
use Rattle.lw_node.proofs.MergeLemmas.{left_spelled, spelled_clock, spelled_rise, joins_fit, joined_least, never_malformed, none_is_ok, same_fault, merges_joined}
use Rattle.lw_node.proofs.node.Node.merge.Goals as goal

pub returns-in-Err-clause-malformed : goal.returns-in-Err-clause-malformed
returns-in-Err-clause-malformed c = λ fault. (
  λ h. (c.in-Err.ensures.faults fault).0 (λ i. Err (same_fault c.in-Err.fault fault h i)),
  λ h. (let same : c.in-Err.fault ≡ fault = (let is = (c.in-Err.ensures.faults fault).1 h in cc) in cc),
)

pub returns-in-Err-clause-none : goal.returns-in-Err-clause-none
returns-in-Err-clause-none c = λ clock h. absurd (c.in-Err.ensures.only (record { clock = clock; slots = [] }) h)

pub raise-requires : goal.raise-requires
raise-requires c =
    let found = c.in-Ok.ensures.found in
    subst (λ n. n < 2 ^ 48) (sym c.clock.ensures) (spelled_clock c.args.bytes.now (record { clock = c.in-Ok.slots.clock; slots = found.0 }) found.2)

pub join_slots-requires : goal.join_slots-requires
join_slots-requires c =
    let found = c.in-Ok.ensures.found in
    record { fits = c.in-Ok.ensures.fits; rise = (found.0, found.1, spelled_rise c.args.bytes.now (record { clock = c.in-Ok.slots.clock; slots = found.0 }) found.2) }

pub invariant_of-self : goal.invariant_of-self
invariant_of-self c =
    let bytes = c.args.bytes.now in
    let clock = c.in-Ok.slots.clock in
    let found = c.in-Ok.ensures.found in
    let joins = c.join_slots.ensures in
    let spelled = left_spelled bytes c.in-Ok.slots found joins.0 joins.1 in
    let raised = c.raise.ensures ∙ ap (max (counter_of c.self.inside.clock)) c.clock.ensures in
    joins_fit (counter_of c.self.inside.clock) clock (counter_of c.raise.new.self) c.self.inside.table c.join_slots.new.table joins.0 c.join_slots.result raised joins.2 c.self.invariant
    (spelled_fits bytes (record { clock = clock; slots = joins.0 }) spelled).1

pub returns-clause-merges : goal.returns-clause-merges
returns-clause-merges c =
    let bytes = c.args.bytes.now in
    let clock = c.in-Ok.slots.clock in
    let joins = c.join_slots.ensures in
    let spelled = left_spelled bytes c.in-Ok.slots c.in-Ok.ensures.found joins.0 joins.1 in
    let raised = c.raise.ensures ∙ ap (max (counter_of c.self.inside.clock)) c.clock.ensures in
    let old : NodeContent = record { number = c.self.inside.number; clock = counter_of c.self.inside.clock; table = c.self.inside.table } in
    let new : NodeContent = record { number = c.self.inside.number; clock = counter_of c.raise.new.self; table = c.join_slots.new.table } in
    subst (λ (node : NodeContent). Merges node bytes c.join_slots.result new) c.self.view_is
    (merges_joined old new bytes clock joins.0 c.join_slots.result spelled refl raised joins.2)

pub returns-clause-malformed : goal.returns-clause-malformed
returns-clause-malformed c = λ fault.
    let found = c.in-Ok.ensures.found in
    let joins = c.join_slots.ensures in (
      λ h. absurd (never_malformed c.self.inside.table c.join_slots.new.table joins.0 c.join_slots.result fault joins.2 h),
      λ h. absurd (apart c.args.bytes.now (record { clock = c.in-Ok.slots.clock; slots = found.0 }) fault found.2 h),
    )

pub returns-clause-least : goal.returns-clause-least
returns-clause-least c = λ e other is_ok.
    let bytes = c.args.bytes.now in
    let clock = c.in-Ok.slots.clock in
    let joins = c.join_slots.ensures in
    let is : DeltaContent = record { clock = clock; slots = joins.0 } in
    let spelled = left_spelled bytes c.in-Ok.slots c.in-Ok.ensures.found joins.0 joins.1 in
    let raised = c.raise.ensures ∙ ap (max (counter_of c.self.inside.clock)) c.clock.ensures in
    let old : NodeContent = record { number = c.self.inside.number; clock = counter_of c.self.inside.clock; table = c.self.inside.table } in
    let new : NodeContent = record { number = c.self.inside.number; clock = counter_of c.raise.new.self; table = c.join_slots.new.table } in
    subst (λ (node : NodeContent). IsLeastOfBoth (known_by node) (known_from e) (known_by new)) c.self.view_is
    (subst (λ (x : DeltaContent). IsLeastOfBoth (known_by old) (known_from x) (known_by new)) (one_delta bytes is e spelled other)
    (joined_least old.clock clock new.clock old.table new.table joins.0 c.join_slots.result raised joins.2 is_ok))

pub returns-clause-none : goal.returns-clause-none
returns-clause-none c = λ clock h.
    let bytes = c.args.bytes.now in
    let joins = c.join_slots.ensures in
    let same = one_delta bytes (record { clock = c.in-Ok.slots.clock; slots = joins.0 }) (record { clock = clock; slots = [] }) (left_spelled bytes c.in-Ok.slots c.in-Ok.ensures.found joins.0 joins.1) h in
    none_is_ok c.self.inside.table c.join_slots.new.table joins.0 c.join_slots.result (ap (λ (x : DeltaContent). x.slots) same) joins.2
