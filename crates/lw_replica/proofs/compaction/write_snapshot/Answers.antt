use Rattle.std.proofs.Common.{◌≡◌, ◌≤◌, Err, Some, length, true, cond, ap, ◌∙◌, sym, refl, subst}
use Rattle.lw_delta.specs.Delta.{IsSpelling}
use Rattle.lw_node.specs.Exchange.{IsDeltaSince}
use Rattle.lw_node.specs.Node.{NodeContent}
use Rattle.lw_log.specs.Calls.{place, place_of}
use Rattle.lw_log.specs.Entries.BodyContent.{Snapshot}
use Rattle.lw_replica.specs.inner.Taking.{IsEntryOf}
use Rattle.lw_replica.specs.Parts.{used_numbers_of}
use Rattle.lw_replica.specs.declared.state.ReplicaState.{ReplicaState}
use Rattle.lw_replica.specs.inner.ReplicaState.{counted_in}
use Rattle.lw_replica.proofs.Catching.{replica_failed}
use Rattle.lw_replica.proofs.Counting.{counts_own}
use Rattle.lw_replica.specs.inner.Snapshots.{TriesSnapshot}
use Rattle.lw_replica.proofs.Knowing.{by_failed}
use Rattle.lw_replica.proofs.Merging.{on_err, same_appended, same_failed, same_none}
use Rattle.lw_replica.proofs.Owning.{append_snapshot, replica_snapshot, tries_none}
use Rattle.lw_replica.specs.Own.{next_sequence}
use Rattle.lw_replica.specs.Parts.{content_of}
use Rattle.lw_replica.proofs.Sequences.{has_next, used_numbers_failed, used_numbers_none, used_numbers_wrote}
use Rattle.lw_replica.proofs.Asking.{calls_none}
use Rattle.lw_replica.proofs.Refusing.{raised, refuses_log, refuses_memory}
use Rattle.std.proofs.Common.{[]}
use Rattle.lw_replica.proofs.compaction.write_snapshot.Goals as goal

pub entry-requires-clause-fits : goal.entry-requires-clause-fits
entry-requires-clause-fits g c = c.as_bytes.ensures.length

pub entry-requires-clause-spelt : goal.entry-requires-clause-spelt
entry-requires-clause-spelt g c =
    let is = subst (λ d. IsDeltaSince c.args.state.now.node 0 d) (sym c.deref.ensures.value) c.in_ok-delta.ensures in
    λ delta has. (record { clock = c.args.state.now.node.clock; slots = is.slots }, subst (λ d. IsSpelling d (record { clock = c.args.state.now.node.clock; slots = is.slots })) has is.spelled)

pub returns-in_err-position-clause-replica : goal.returns-in_err-position-clause-replica
returns-in_err-position-clause-replica g c = replica_failed _ _ _ _ _ c.append.ensures.asked c.append.ensures.only c.append.ensures.covering c.requires

pub returns-in_err-position-clause-own : goal.returns-in_err-position-clause-own
returns-in_err-position-clause-own g c =
    let s0 = c.args.state.now in
    let is = subst (λ d. IsDeltaSince s0.node 0 d) (sym c.deref.ensures.value) c.in_ok-delta.ensures in
    let e = subst (λ b. IsEntryOf s0 c.args.fleet.bytes (Snapshot (used_numbers_of s0) c.deref.result.now) b) (sym c.deref-2.ensures.value) (subst (λ ns. IsEntryOf s0 c.args.fleet.bytes (Snapshot ns c.deref.result.now) c.in_ok-entry.entry.items) c.as_bytes.ensures.bytes c.in_ok-entry.ensures) in
    let own : TriesSnapshot (g.G.DeltaLog.calls c.args.log.now) s0 c.args.fleet.bytes (g.G.DeltaLog.calls c.append.new.log) c.append.new.state = (
      _,
      c.in_err-position.ensures.asked,
      append_snapshot s0 _ c.deref-2.result.now (Err c.in_err-position.field-0.0) (record { delta = c.deref.result.now; is = is; entry = e }),
      by_failed s0 c.append.new.state c.deref-2.result.now c.in_err-position.field-0.0 c.append.ensures.read_to,
    ) in
    on_err _ own

pub returns-in_err-position-clause-same : goal.returns-in_err-position-clause-same
returns-in_err-position-clause-same g c = same_failed c.args.state.now c.append.new.state c.append.ensures.only

pub returns-clause-written : goal.returns-clause-written
returns-clause-written g c =
    let s0 = c.args.state.now in
    let is = subst (λ d. IsDeltaSince s0.node 0 d) (sym c.deref.ensures.value) c.in_ok-delta.ensures in
    let e = subst (λ b. IsEntryOf s0 c.args.fleet.bytes (Snapshot (used_numbers_of s0) c.deref.result.now) b) (sym c.deref-2.ensures.value) (subst (λ ns. IsEntryOf s0 c.args.fleet.bytes (Snapshot ns c.deref.result.now) c.in_ok-entry.entry.items) c.as_bytes.ensures.bytes c.in_ok-entry.ensures) in
    record {
      place = (place c.in_ok-position.position, c.deref-2.result.now);
      place_is = refl;
      asked = c.in_ok-position.ensures.asked;
      whole = record { delta = c.deref.result.now; is = is; entry = e };
      numbered = (has_next s0 _ _ _ e, c.appended_snapshot.ensures.sequence ∙ ap (λ (x : ReplicaState). next_sequence x.sequence) c.in_ok-position.ensures.done);
      durable = refl;
      read_to = c.appended_snapshot.ensures.read_to ∙ ap (λ (x : ReplicaState). cond x.alone (Some (place c.in_ok-position.position)) (place_of x.read_to)) c.in_ok-position.ensures.done;
      counted = counts_own s0.alone (counted_in s0) (counted_in c.appended_snapshot.new.self) c.deref-2.result.now e.entry (Snapshot (used_numbers_of s0) c.deref.result.now) c.len.result e.is e.body_is
          (c.len.ensures ∙ c.in_ok-entry.entry.ok.0 ∙ ap length (sym c.deref-2.ensures.value))
          (c.appended_snapshot.ensures.counted ∙ ap (λ (x : ReplicaState). cond x.alone (c.len.result, 0) (counted_in x)) c.in_ok-position.ensures.done);
    }

pub returns-clause-replica : goal.returns-clause-replica
returns-clause-replica g c =
    let s0 = c.args.state.now in
    let only = c.appended_snapshot.ensures.only in
    let done = c.in_ok-position.ensures.done in
    let is = subst (λ d. IsDeltaSince s0.node 0 d) (sym c.deref.ensures.value) c.in_ok-delta.ensures in
    let e = subst (λ b. IsEntryOf s0 c.args.fleet.bytes (Snapshot (used_numbers_of s0) c.deref.result.now) b) (sym c.deref-2.ensures.value) (subst (λ ns. IsEntryOf s0 c.args.fleet.bytes (Snapshot ns c.deref.result.now) c.in_ok-entry.entry.items) c.as_bytes.ensures.bytes c.in_ok-entry.ensures) in
    let node = ap (λ (x : ReplicaState). x.node) only ∙ ap (λ (x : ReplicaState). x.node) done in
    let start = ap (λ (x : ReplicaState). x.start) only ∙ ap (λ (x : ReplicaState). x.start) done in
    let floor = ap (λ (x : ReplicaState). x.floor) only ∙ ap (λ (x : ReplicaState). x.floor) done in
    let s : ReplicaState = record c.appended_snapshot.new.self { durable = true; written = c.change-state.result } in
    replica_snapshot _ _ s0 s (place c.in_ok-position.position, c.deref-2.result.now) _ (record { delta = c.deref.result.now; is = is; entry = e }) c.in_ok-position.ensures.asked node start floor refl (c.change-state.ensures ∙ ap (λ (n : NodeContent). n.table.count.change) node) c.requires

pub returns-in_err-delta-clause-same : goal.returns-in_err-delta-clause-same
returns-in_err-delta-clause-same g c = same_none c.args.state.now

pub returns-in_err-delta-clause-own : goal.returns-in_err-delta-clause-own
returns-in_err-delta-clause-own g c = on_err _ (tries_none (g.G.DeltaLog.calls c.args.log.now) c.args.state.now c.args.fleet.bytes)

pub returns-in_err-entry-clause-same : goal.returns-in_err-entry-clause-same
returns-in_err-entry-clause-same g c = same_none c.args.state.now

pub returns-in_err-entry-clause-own : goal.returns-in_err-entry-clause-own
returns-in_err-entry-clause-own g c = on_err _ (tries_none (g.G.DeltaLog.calls c.args.log.now) c.args.state.now c.args.fleet.bytes)

pub returns-clause-same : goal.returns-clause-same
returns-clause-same g c =
    let s0 = c.args.state.now in
    let s = c.appended_snapshot.new.self in
    let only : s ≡ record s0 { sequence = s.sequence; read_to = s.read_to; size = s.size } =
    c.appended_snapshot.ensures.only ∙ ap (λ (x : ReplicaState). record x { sequence = s.sequence; read_to = s.read_to; size = s.size }) c.in_ok-position.ensures.done in
    same_appended s0 s true c.change-state.result only

pub returns-in_err-delta-clause-sequence : goal.returns-in_err-delta-clause-sequence
returns-in_err-delta-clause-sequence g c = used_numbers_none (content_of (g.G.DeltaLog.calls c.args.log.now) c.args.state.now)

pub returns-in_err-entry-clause-sequence : goal.returns-in_err-entry-clause-sequence
returns-in_err-entry-clause-sequence g c = used_numbers_none (content_of (g.G.DeltaLog.calls c.args.log.now) c.args.state.now)

pub returns-in_err-position-clause-sequence : goal.returns-in_err-position-clause-sequence
returns-in_err-position-clause-sequence g c =
    let s0 = c.args.state.now in
    let e = subst (λ b. IsEntryOf s0 c.args.fleet.bytes (Snapshot c.as_bytes.result.now c.deref.result.now) b) (sym c.deref-2.ensures.value) c.in_ok-entry.ensures in
    used_numbers_failed (content_of _ s0) (content_of _ c.append.new.state) c.deref-2.result.now c.in_err-position.field-0.0 c.in_err-position.ensures.asked (has_next s0 _ _ _ e) (ap (λ (x : ReplicaState). x.sequence) c.append.ensures.only)

pub returns-clause-sequence : goal.returns-clause-sequence
returns-clause-sequence g c =
    let s0 = c.args.state.now in
    let s : ReplicaState = record c.appended_snapshot.new.self { durable = true; written = c.change-state.result } in
    let done = c.in_ok-position.ensures.done in
    let e = subst (λ b. IsEntryOf s0 c.args.fleet.bytes (Snapshot c.as_bytes.result.now c.deref.result.now) b) (sym c.deref-2.ensures.value) c.in_ok-entry.ensures in
    used_numbers_wrote (content_of _ s0) (content_of _ s) (place c.in_ok-position.position, c.deref-2.result.now) c.in_ok-position.ensures.asked (has_next s0 _ _ _ e)
    (c.appended_snapshot.ensures.sequence ∙ ap (λ (x : ReplicaState). next_sequence x.sequence) done) (subst (λ n. n ≤ c.appended_snapshot.new.self.sequence) (ap (λ (x : ReplicaState). x.sequence) done) c.appended_snapshot.ensures.risen)

pub returns-in_err-delta-clause-refused : goal.returns-in_err-delta-clause-refused
returns-in_err-delta-clause-refused g c =
    raised _ c.from_residual.result c.from_residual.ensures.1 (refuses_memory (content_of _ c.args.state.now) (content_of _ c.args.state.now) [] _ refl (calls_none (g.G.DeltaLog.calls c.args.log.now)))

pub returns-in_err-entry-clause-refused : goal.returns-in_err-entry-clause-refused
returns-in_err-entry-clause-refused g c =
    raised _ c.from_residual-in_err-entry.result c.from_residual-in_err-entry.ensures.1 (refuses_memory (content_of _ c.args.state.now) (content_of _ c.args.state.now) [] _ refl (calls_none (g.G.DeltaLog.calls c.args.log.now)))

pub returns-in_err-position-clause-refused : goal.returns-in_err-position-clause-refused
returns-in_err-position-clause-refused g c =
    raised _ c.from_residual-in_err-position.result c.from_residual-in_err-position.ensures.1 (refuses_log (content_of _ c.args.state.now) (content_of _ c.append.new.state) _ c.in_err-position.field-0.0 _ refl c.in_err-position.ensures.asked)
