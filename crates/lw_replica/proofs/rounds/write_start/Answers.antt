use Rattle.std.proofs.Common.{◌≡◌, ◌≤◌, inl, inr, Err, length, Some, cond, ap, ◌∙◌, sym, subst}
use Rattle.lw_log.specs.Calls.{place, place_of}
use Rattle.lw_log.specs.Entries.BodyContent.{Start}
use Rattle.lw_replica.specs.inner.Taking.{IsEntryOf}
use Rattle.lw_replica.specs.declared.state.ReplicaState.{ReplicaState}
use Rattle.lw_replica.specs.Counting.{counted_with}
use Rattle.lw_replica.specs.inner.ReplicaState.{counted_in}
use Rattle.lw_replica.proofs.Counting.{counts_own}
use Rattle.lw_replica.proofs.Catching.{replica_failed, replica_more, replica_parts}
use Rattle.lw_replica.specs.inner.Writing.{Claims}
use Rattle.lw_replica.proofs.Knowing.{by_failed}
use Rattle.lw_replica.proofs.Merging.{on_err, same_failed, same_none, same_started}
use Rattle.lw_replica.proofs.Owning.{append_claims, claims_none, start_of}
use Rattle.lw_replica.specs.Parts.{content_of}
use Rattle.lw_replica.proofs.Sequences.{has_next, used_numbers_failed, used_numbers_none, used_numbers_wrote}
use Rattle.lw_replica.specs.Own.{next_sequence}
use Rattle.lw_replica.proofs.Asking.{calls_none}
use Rattle.lw_replica.proofs.Refusing.{raised, refuses_log, refuses_memory}
use Rattle.std.proofs.Common.{[], refl}
use Rattle.lw_replica.proofs.rounds.write_start.Goals as goal

pub returns-in_err-position-clause-replica : goal.returns-in_err-position-clause-replica
returns-in_err-position-clause-replica g c = λ m. replica_failed _ _ _ _ _ c.append.ensures.asked c.append.ensures.only c.append.ensures.covering m

pub returns-in_err-position-clause-own : goal.returns-in_err-position-clause-own
returns-in_err-position-clause-own g c =
    let own : Claims (g.G.DeltaLog.calls c.args.log.now) c.args.state.now (g.G.DeltaLog.calls c.append.new.log) c.append.new.state = (
      _,
      c.in_err-position.ensures.asked,
      append_claims _ _ c.deref.result.now (Err c.in_err-position.field-0.0) (start_of _ _ _ (subst (λ b. IsEntryOf c.args.state.now c.own_fleet-fleet.result.bytes Start b) (sym c.deref.ensures.value) c.in_ok-entry.ensures)),
      by_failed c.args.state.now c.append.new.state c.deref.result.now c.in_err-position.field-0.0 c.append.ensures.read_to,
    ) in
    on_err _ own

pub returns-in_err-entry-clause-own : goal.returns-in_err-entry-clause-own
returns-in_err-entry-clause-own g c = on_err _ (claims_none (g.G.DeltaLog.calls c.args.log.now) c.args.state.now)

pub returns-in_err-entry-clause-same : goal.returns-in_err-entry-clause-same
returns-in_err-entry-clause-same g c = same_none c.args.state.now

pub returns-in_err-position-clause-same : goal.returns-in_err-position-clause-same
returns-in_err-position-clause-same g c = same_failed c.args.state.now c.append.new.state c.append.ensures.only

pub returns-clause-same : goal.returns-clause-same
returns-clause-same g c =
    let s0 = c.args.state.now in
    let s = c.started.new.self in
    let done = c.in_ok-position.ensures.done in
    let only : s ≡ record s0 { sequence = s.sequence; read_to = s.read_to; size = s.size; fleet = s.fleet } =
    c.started.ensures.only ∙ ap (λ (x : ReplicaState). record x { sequence = s.sequence; read_to = s.read_to; size = s.size; fleet = s.fleet }) done in
    same_started s0 s only c.own_fleet-fleet.result c.own_fleet-fleet.ensures (elim c.started.ensures.fleet [
      | inl same ↦ inl (same ∙ ap (λ (x : ReplicaState). x.fleet) done)
      | inr own ↦ inr own
    ])

pub returns-clause-started : goal.returns-clause-started
returns-clause-started g c =
    let s0 = c.args.state.now in
    let s = c.started.new.self in
    let only = c.started.ensures.only in
    let done = c.in_ok-position.ensures.done in
    let e = subst (λ b. IsEntryOf s0 c.own_fleet-fleet.result.bytes Start b) (sym c.deref.ensures.value) c.in_ok-entry.ensures in
    record {
      place = (place c.in_ok-position.position, c.deref.result.now);
      asked = c.in_ok-position.ensures.asked;
      entry = e;
      sequence = c.started.ensures.sequence ∙ ap (λ (x : ReplicaState). next_sequence x.sequence) done;
      only = only ∙ ap (λ (x : ReplicaState). record x { sequence = s.sequence; read_to = s.read_to; size = s.size; fleet = s.fleet }) done;
      shared = λ h. c.started.ensures.shared (ap (λ (x : ReplicaState). x.alone) done ∙ h) ∙ ap (λ (x : ReplicaState). x.fleet) done;
      read_to = c.started.ensures.read_to ∙ ap (λ (x : ReplicaState). cond x.alone (Some (place c.in_ok-position.position)) (place_of x.read_to)) done;
      counted = counts_own s0.alone (counted_in s0) (counted_in s) c.deref.result.now e.entry Start c.len.result e.is e.body_is
          (c.len.ensures ∙ c.in_ok-entry.entry.ok.0 ∙ ap length (sym c.deref.ensures.value))
          (c.started.ensures.counted ∙ ap (λ (x : ReplicaState). cond x.alone (counted_with Start c.len.result (counted_in x)) (counted_in x)) done);
    }

pub returns-clause-replica : goal.returns-clause-replica
returns-clause-replica g c = λ m.
    let more = replica_more _ _ _ _ c.append.ensures.asked m in
    let only = c.started.ensures.only in
    let done = c.in_ok-position.ensures.done in
    replica_parts _ _ _ (ap (λ (s : ReplicaState). s.node) (only) ∙ ap (λ (s : ReplicaState). s.node) done) (ap (λ (s : ReplicaState). s.durable) only ∙ ap (λ (s : ReplicaState). s.durable) done) (ap (λ (s : ReplicaState). s.written) only ∙ ap (λ (s : ReplicaState). s.written) done)
    (ap (λ (s : ReplicaState). s.start) only ∙ ap (λ (s : ReplicaState). s.start) done) (ap (λ (s : ReplicaState). s.floor) only ∙ ap (λ (s : ReplicaState). s.floor) done) more

pub returns-in_err-entry-clause-sequence : goal.returns-in_err-entry-clause-sequence
returns-in_err-entry-clause-sequence g c = used_numbers_none (content_of (g.G.DeltaLog.calls c.args.log.now) c.args.state.now)

pub returns-in_err-position-clause-sequence : goal.returns-in_err-position-clause-sequence
returns-in_err-position-clause-sequence g c =
    let s0 = c.args.state.now in
    let fleet = c.own_fleet-fleet.result.bytes in
    let e = subst (λ b. IsEntryOf s0 fleet Start b) (sym c.deref.ensures.value) c.in_ok-entry.ensures in
    used_numbers_failed (content_of _ s0) (content_of _ c.append.new.state) c.deref.result.now c.in_err-position.field-0.0 c.in_err-position.ensures.asked (has_next s0 fleet Start _ e) (ap (λ (x : ReplicaState). x.sequence) c.append.ensures.only)

pub returns-clause-sequence : goal.returns-clause-sequence
returns-clause-sequence g c =
    let s0 = c.args.state.now in
    let s = c.started.new.self in
    let fleet = c.own_fleet-fleet.result.bytes in
    let done = c.in_ok-position.ensures.done in
    let e = subst (λ b. IsEntryOf s0 fleet Start b) (sym c.deref.ensures.value) c.in_ok-entry.ensures in
    used_numbers_wrote (content_of _ s0) (content_of _ s) (place c.in_ok-position.position, c.deref.result.now) c.in_ok-position.ensures.asked (has_next s0 fleet Start _ e)
    (c.started.ensures.sequence ∙ ap (λ (x : ReplicaState). next_sequence x.sequence) done) (subst (λ n. n ≤ s.sequence) (ap (λ (x : ReplicaState). x.sequence) done) c.started.ensures.risen)

pub returns-in_err-entry-clause-refused : goal.returns-in_err-entry-clause-refused
returns-in_err-entry-clause-refused g c =
    raised _ c.from_residual.result c.from_residual.ensures.1 (refuses_memory (content_of _ c.args.state.now) (content_of _ c.args.state.now) [] _ refl (calls_none (g.G.DeltaLog.calls c.args.log.now)))

pub returns-in_err-position-clause-refused : goal.returns-in_err-position-clause-refused
returns-in_err-position-clause-refused g c =
    raised _ c.from_residual-in_err-position.result c.from_residual-in_err-position.ensures.1 (refuses_log (content_of _ c.args.state.now) (content_of _ c.append.new.state) _ c.in_err-position.field-0.0 _ refl c.in_err-position.ensures.asked)
