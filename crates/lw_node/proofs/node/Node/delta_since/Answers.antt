use Rattle.std.proofs.Common.{◌∙◌, ℕ, List, [], ◌∷◌, ◌++◌, map, sym, subst, append_assoc}
use Rattle.std.specs.Vec.Iter.{into_iter_items}
use Rattle.lw_reg.specs.declared.slot.Slot.{Slot}
use Rattle.lw_table.specs.Changes.{IsSinceIn}
use Rattle.lw_delta.specs.Writable.{StampsWithin}
use Rattle.lw_node.specs.Node.{NodeContent, HasEndpoints}
use Rattle.lw_node.specs.Within.{FitsClock}
use Rattle.lw_node.proofs.SendLemmas.{next_named, next_within, next_above}
use Rattle.lw_node.proofs.node.Node.delta_since.Goals as goal

pub slot-requires-clause-named : goal.slot-requires-clause-named
slot-requires-clause-named c =
    let now = c.args.self.now.table in
    let so_far = c.loop-endpoint.invariant.2 in
    let x : List ℕ × Slot = (c.in-Some.endpoint.now, c.in-Some.slot.now) in
    let rest : List (List ℕ × Slot) = map (λ y. (y.0.now, y.1.now)) (into_iter_items c.next.new.self) in
    let sent = subst (λ items. IsSinceIn now.state now.count c.args.since (so_far.done ++ map (λ y. (y.0.now, y.1.now)) items)) c.in-Some.ensures.steps.0 so_far.since in
    next_named now.state now.count c.args.since so_far.done x rest sent (subst (λ (node : NodeContent). HasEndpoints node.table.state) c.self.view_is c.self.invariant.0)

pub slot-requires-clause-above : goal.slot-requires-clause-above
slot-requires-clause-above c = λ slots begun.
    let now = c.args.self.now.table in
    let so_far = c.loop-endpoint.invariant.2 in
    let x : List ℕ × Slot = (c.in-Some.endpoint.now, c.in-Some.slot.now) in
    let rest : List (List ℕ × Slot) = map (λ y. (y.0.now, y.1.now)) (into_iter_items c.next.new.self) in
    let sent = subst (λ items. IsSinceIn now.state now.count c.args.since (so_far.done ++ map (λ y. (y.0.now, y.1.now)) items)) c.in-Some.ensures.steps.0 so_far.since in
    next_above now.state now.count c.args.since so_far.done x rest sent c.loop-endpoint.writer so_far.begun slots begun

pub slot-requires-clause-within : goal.slot-requires-clause-within
slot-requires-clause-within c =
    let node = c.args.self.now in
    let now = node.table in
    let so_far = c.loop-endpoint.invariant.2 in
    let x : List ℕ × Slot = (c.in-Some.endpoint.now, c.in-Some.slot.now) in
    let rest : List (List ℕ × Slot) = map (λ y. (y.0.now, y.1.now)) (into_iter_items c.next.new.self) in
    let sent = subst (λ items. IsSinceIn now.state now.count c.args.since (so_far.done ++ map (λ y. (y.0.now, y.1.now)) items)) c.in-Some.ensures.steps.0 so_far.since in
    subst (λ (clock : ℕ). StampsWithin clock c.in-Some.slot.now) (sym so_far.clock)
    (next_within now.state now.count c.args.since so_far.done x rest sent node.clock (subst (λ (n : NodeContent). FitsClock n.clock n.table.state) c.self.view_is c.self.invariant.1))

pub loop-endpoint-preserved : goal.loop-endpoint-preserved
loop-endpoint-preserved c =
    let now = c.args.self.now.table in
    let so_far = c.loop-endpoint.invariant.2 in
    let x : List ℕ × Slot = (c.in-Some.endpoint.now, c.in-Some.slot.now) in
    let rest : List (List ℕ × Slot) = map (λ y. (y.0.now, y.1.now)) (into_iter_items c.next.new.self) in
    let sent = subst (λ items. IsSinceIn now.state now.count c.args.since (so_far.done ++ map (λ y. (y.0.now, y.1.now)) items)) c.in-Some.ensures.steps.0 so_far.since in (
      tt,
      tt,
      record {
        done = so_far.done ++ x ∷ [];
        since = subst (IsSinceIn now.state now.count c.args.since) (sym (append_assoc so_far.done (x ∷ []) rest)) sent;
        begun = c.in_ok-slot.ensures.begun so_far.done so_far.begun;
        clock = c.slot.ensures.clock ∙ so_far.clock;
      },
    )
