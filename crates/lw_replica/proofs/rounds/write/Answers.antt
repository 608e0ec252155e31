use Rattle.std.proofs.Common.{◌≡◌, ◌≤◌, Err, ◌∷◌, [], length, Option, Some, true, cond, ap, ◌∙◌, sym, inr, refl, subst}
use Rattle.std.specs.Prelude.{Ok, option_map}
use Rattle.lw_delta.specs.Delta.{IsSpelling}
use Rattle.lw_node.specs.Exchange.{IsDeltaSince}
use Rattle.lw_node.specs.Node.{NodeContent}
use Rattle.lw_log.specs.Calls.{place, place_of}
use Rattle.lw_log.specs.Calls.LogCall.{Wrote}
use Rattle.lw_log.specs.Entries.BodyContent.{Start, Delta}
use Rattle.lw_replica.specs.Counting.{counted_with}
use Rattle.lw_replica.specs.Parts.{content_of}
use Rattle.lw_replica.specs.inner.Taking.{IsEntryOf}
use Rattle.lw_log.specs.declared.entry.FleetId.{FleetId}
use Rattle.lw_replica.specs.declared.state.ReplicaState.{ReplicaState}
use Rattle.lw_replica.specs.inner.ReplicaState.{counted_in}
use Rattle.lw_replica.proofs.Catching.{replica_failed}
use Rattle.lw_replica.proofs.Counting.{counts_own}
use Rattle.lw_replica.proofs.Knowing.{by_failed}
use Rattle.lw_replica.proofs.Merging.{same_appended, same_failed, same_none}
use Rattle.lw_replica.proofs.Owning.{append_own, own_since, replica_written}
use Rattle.lw_replica.proofs.Sequences.{has_next, used_numbers_failed, used_numbers_none, used_numbers_wrote}
use Rattle.lw_replica.specs.Own.{next_sequence}
use Rattle.lw_replica.proofs.Asking.{calls_none}
use Rattle.lw_replica.proofs.Refusing.{raised, refuses_log, refuses_memory}
use Rattle.lw_replica.proofs.rounds.write.Goals as goal

pub entry-requires-clause-spelt : goal.entry-requires-clause-spelt
entry-requires-clause-spelt g c =
    let is = subst (λ d. IsDeltaSince c.args.state.now.node c.args.state.now.written d) (sym c.deref.ensures.value) c.in_ok-delta.ensures in
    λ delta has. (record { clock = c.args.state.now.node.clock; slots = is.slots }, subst (λ d. IsSpelling d (record { clock = c.args.state.now.node.clock; slots = is.slots })) has is.spelled)

pub returns-in_err-position-clause-replica : goal.returns-in_err-position-clause-replica
returns-in_err-position-clause-replica g c = λ m. replica_failed _ _ _ _ _ c.append.ensures.asked c.append.ensures.only c.append.ensures.covering m

pub returns-in_err-position-clause-own : goal.returns-in_err-position-clause-own
returns-in_err-position-clause-own g c = λ m.
    let s0 = c.args.state.now in
    let s = c.append.new.state in
    let only = c.append.ensures.only in
    let is = subst (λ d. IsDeltaSince s0.node s0.written d) (sym c.deref.ensures.value) c.in_ok-delta.ensures in
    let fleet = ap (λ (f : Option FleetId). option_map (λ (x : FleetId). x.bytes) f) (ap (λ (x : ReplicaState). x.fleet) only ∙ c.in-Some.is) in
    let e = subst (λ b. IsEntryOf s0 c.in-Some.fleet.bytes (Delta c.deref.result.now) b) (sym c.deref-2.ensures.value) c.in_ok-entry.ensures in (
      _,
      c.in_err-position.ensures.asked,
      append_own (content_of (g.G.DeltaLog.calls c.append.new.log) s) c.deref-2.result.now (Err c.in_err-position.field-0.0) (inr (s0.written, own_since _ s0 s _ _ _ s0.written (ap (λ (x : ReplicaState). x.node) only) (ap (λ (x : ReplicaState). x.start) only) fleet is e m.number)),
      by_failed s0 s c.deref-2.result.now c.in_err-position.field-0.0 c.append.ensures.read_to,
    )

pub returns-in_err-position-clause-same : goal.returns-in_err-position-clause-same
returns-in_err-position-clause-same g c = same_failed c.args.state.now c.append.new.state c.append.ensures.only

pub returns-clause-own : goal.returns-clause-own
returns-clause-own g c = λ m.
    let s0 = c.args.state.now in
    let only = c.appended.ensures.only in
    let done = c.in_ok-position.ensures.done in
    let is = subst (λ d. IsDeltaSince s0.node s0.written d) (sym c.deref.ensures.value) c.in_ok-delta.ensures in
    let e = subst (λ b. IsEntryOf s0 c.in-Some.fleet.bytes (Delta c.deref.result.now) b) (sym c.deref-2.ensures.value) c.in_ok-entry.ensures in
    let node = ap (λ (x : ReplicaState). x.node) only ∙ ap (λ (x : ReplicaState). x.node) done in
    let start = ap (λ (x : ReplicaState). x.start) only ∙ ap (λ (x : ReplicaState). x.start) done in
    let fleet = ap (λ (f : Option FleetId). option_map (λ (x : FleetId). x.bytes) f) (ap (λ (x : ReplicaState). x.fleet) only ∙ ap (λ (x : ReplicaState). x.fleet) done ∙ c.in-Some.is) in
    let s : ReplicaState = record c.appended.new.self { durable = true; written = c.change-state.result } in (
      _,
      c.in_ok-position.ensures.asked,
      append_own (content_of (g.G.DeltaLog.calls c.append.new.log) s) c.deref-2.result.now (Ok c.in_ok-position.position) (inr (s0.written, own_since _ s0 s _ _ _ s0.written node start fleet is e m.number)),
      inr (c.appended.ensures.read_to ∙ ap (λ (x : ReplicaState). cond x.alone (Some (place c.in_ok-position.position)) (place_of x.read_to)) done),
    )

pub returns-clause-written : goal.returns-clause-written
returns-clause-written g c = λ m.
    let s0 = c.args.state.now in
    let only = c.appended.ensures.only in
    let done = c.in_ok-position.ensures.done in
    let is = subst (λ d. IsDeltaSince s0.node s0.written d) (sym c.deref.ensures.value) c.in_ok-delta.ensures in
    let e = subst (λ b. IsEntryOf s0 c.in-Some.fleet.bytes (Delta c.deref.result.now) b) (sym c.deref-2.ensures.value) c.in_ok-entry.ensures in
    let node = ap (λ (x : ReplicaState). x.node) only ∙ ap (λ (x : ReplicaState). x.node) done in
    let start = ap (λ (x : ReplicaState). x.start) only ∙ ap (λ (x : ReplicaState). x.start) done in
    let fleet = ap (λ (f : Option FleetId). option_map (λ (x : FleetId). x.bytes) f) (ap (λ (x : ReplicaState). x.fleet) only ∙ ap (λ (x : ReplicaState). x.fleet) done ∙ c.in-Some.is) in
    let s : ReplicaState = record c.appended.new.self { durable = true; written = c.change-state.result } in
    record {
      wrote = Wrote (place c.in_ok-position.position, c.deref-2.result.now) ∷ [];
      asked = c.in_ok-position.ensures.asked;
      one = inr (c.if-state.false, (place c.in_ok-position.position, c.deref-2.result.now), refl, own_since _ s0 s _ _ _ s0.written node start fleet is e m.number);
      numbered = (has_next s0 _ _ _ e, c.appended.ensures.sequence ∙ ap (λ (x : ReplicaState). next_sequence x.sequence) done);
      durable = refl;
      read_to = c.appended.ensures.read_to ∙ ap (λ (x : ReplicaState). cond x.alone (Some (place c.in_ok-position.position)) (place_of x.read_to)) done;
      counted = counts_own s0.alone (counted_in s0) (counted_in s) c.deref-2.result.now e.entry (Delta c.deref.result.now) c.len.result e.is e.body_is
          (c.len.ensures ∙ c.in_ok-entry.entry.ok.0 ∙ ap length (sym c.deref-2.ensures.value))
          (c.appended.ensures.counted ∙ ap (λ (x : ReplicaState). cond x.alone (counted_with Start c.len.result (counted_in x)) (counted_in x)) done);
    }

pub returns-clause-replica : goal.returns-clause-replica
returns-clause-replica g c = λ m.
    let s0 = c.args.state.now in
    let only = c.appended.ensures.only in
    let done = c.in_ok-position.ensures.done in
    let is = subst (λ d. IsDeltaSince s0.node s0.written d) (sym c.deref.ensures.value) c.in_ok-delta.ensures in
    let e = subst (λ b. IsEntryOf s0 c.in-Some.fleet.bytes (Delta c.deref.result.now) b) (sym c.deref-2.ensures.value) c.in_ok-entry.ensures in
    let node = ap (λ (x : ReplicaState). x.node) only ∙ ap (λ (x : ReplicaState). x.node) done in
    let start = ap (λ (x : ReplicaState). x.start) only ∙ ap (λ (x : ReplicaState). x.start) done in
    let fleet = ap (λ (f : Option FleetId). option_map (λ (x : FleetId). x.bytes) f) (ap (λ (x : ReplicaState). x.fleet) only ∙ ap (λ (x : ReplicaState). x.fleet) done ∙ c.in-Some.is) in
    let s : ReplicaState = record c.appended.new.self { durable = true; written = c.change-state.result } in
    let floor = ap (λ (x : ReplicaState). x.floor) only ∙ ap (λ (x : ReplicaState). x.floor) done in
    replica_written _ _ s0 s (place c.in_ok-position.position, c.deref-2.result.now) _ _ is e c.in_ok-position.ensures.asked node start floor refl (c.change-state.ensures ∙ ap (λ (n : NodeContent). n.table.count.change) node) m

pub returns-then-state-clause-same : goal.returns-then-state-clause-same
returns-then-state-clause-same g c = same_none c.args.state.now

pub returns-in_default-clause-same : goal.returns-in_default-clause-same
returns-in_default-clause-same g c = same_none c.args.state.now

pub returns-in_err-delta-clause-same : goal.returns-in_err-delta-clause-same
returns-in_err-delta-clause-same g c = same_none c.args.state.now

pub returns-in_err-entry-clause-same : goal.returns-in_err-entry-clause-same
returns-in_err-entry-clause-same g c = same_none c.args.state.now

pub returns-clause-same : goal.returns-clause-same
returns-clause-same g c =
    let s0 = c.args.state.now in
    let s = c.appended.new.self in
    let only : s ≡ record s0 { sequence = s.sequence; read_to = s.read_to; size = s.size } =
    c.appended.ensures.only ∙ ap (λ (x : ReplicaState). record x { sequence = s.sequence; read_to = s.read_to; size = s.size }) c.in_ok-position.ensures.done in
    same_appended s0 s true c.change-state.result only

pub returns-then-state-clause-sequence : goal.returns-then-state-clause-sequence
returns-then-state-clause-sequence g c = used_numbers_none (content_of (g.G.DeltaLog.calls c.args.log.now) c.args.state.now)

pub returns-in_default-clause-sequence : goal.returns-in_default-clause-sequence
returns-in_default-clause-sequence g c = used_numbers_none (content_of (g.G.DeltaLog.calls c.args.log.now) c.args.state.now)

pub returns-in_err-delta-clause-sequence : goal.returns-in_err-delta-clause-sequence
returns-in_err-delta-clause-sequence g c = used_numbers_none (content_of (g.G.DeltaLog.calls c.args.log.now) c.args.state.now)

pub returns-in_err-entry-clause-sequence : goal.returns-in_err-entry-clause-sequence
returns-in_err-entry-clause-sequence g c = used_numbers_none (content_of (g.G.DeltaLog.calls c.args.log.now) c.args.state.now)

pub returns-in_err-position-clause-sequence : goal.returns-in_err-position-clause-sequence
returns-in_err-position-clause-sequence g c =
    let s0 = c.args.state.now in
    let e = subst (λ b. IsEntryOf s0 c.in-Some.fleet.bytes (Delta c.deref.result.now) b) (sym c.deref-2.ensures.value) c.in_ok-entry.ensures in
    used_numbers_failed (content_of _ s0) (content_of _ c.append.new.state) c.deref-2.result.now c.in_err-position.field-0.0 c.in_err-position.ensures.asked (has_next s0 _ _ _ e) (ap (λ (x : ReplicaState). x.sequence) c.append.ensures.only)

pub returns-clause-sequence : goal.returns-clause-sequence
returns-clause-sequence g c =
    let s0 = c.args.state.now in
    let s : ReplicaState = record c.appended.new.self { durable = true; written = c.change-state.result } in
    let done = c.in_ok-position.ensures.done in
    let e = subst (λ b. IsEntryOf s0 c.in-Some.fleet.bytes (Delta c.deref.result.now) b) (sym c.deref-2.ensures.value) c.in_ok-entry.ensures in
    used_numbers_wrote (content_of _ s0) (content_of _ s) (place c.in_ok-position.position, c.deref-2.result.now) c.in_ok-position.ensures.asked (has_next s0 _ _ _ e)
    (c.appended.ensures.sequence ∙ ap (λ (x : ReplicaState). next_sequence x.sequence) done) (subst (λ n. n ≤ c.appended.new.self.sequence) (ap (λ (x : ReplicaState). x.sequence) done) c.appended.ensures.risen)

pub returns-in_default-clause-refused : goal.returns-in_default-clause-refused
returns-in_default-clause-refused g c = record { more = []; asked = calls_none (g.G.DeltaLog.calls c.args.log.now); why = tt }

pub returns-in_err-delta-clause-refused : goal.returns-in_err-delta-clause-refused
returns-in_err-delta-clause-refused g c =
    raised _ c.from_residual.result c.from_residual.ensures.1 (refuses_memory (content_of _ c.args.state.now) (content_of _ c.args.state.now) [] _ refl (calls_none (g.G.DeltaLog.calls c.args.log.now)))

pub returns-in_err-entry-clause-refused : goal.returns-in_err-entry-clause-refused
returns-in_err-entry-clause-refused g c =
    raised _ c.from_residual-in_err-entry.result c.from_residual-in_err-entry.ensures.1 (refuses_memory (content_of _ c.args.state.now) (content_of _ c.args.state.now) [] _ refl (calls_none (g.G.DeltaLog.calls c.args.log.now)))

pub returns-in_err-position-clause-refused : goal.returns-in_err-position-clause-refused
returns-in_err-position-clause-refused g c =
    raised _ c.from_residual-in_err-position.result c.from_residual-in_err-position.ensures.1 (refuses_log (content_of _ c.args.state.now) (content_of _ c.append.new.state) _ c.in_err-position.field-0.0 _ refl c.in_err-position.ensures.asked)
