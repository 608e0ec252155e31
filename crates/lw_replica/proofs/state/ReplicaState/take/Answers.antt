use Rattle.std.proofs.Common.{◌≡◌, ◌↔◌, ◌⊎◌, inl, inr, List, Option, ℕ, refl, sym, ap, ◌∙◌, subst}
use Rattle.std.specs.Prelude.{Err, option_map}
use Rattle.lw_log.specs.declared.entry.FleetId.{FleetId}
use Rattle.lw_log.specs.Entries.{HasDelta, body_content, content_of}
use Rattle.lw_replica.specs.declared.state.ReplicaState.{ReplicaState}
use Rattle.lw_replica.specs.declared.used_numbers.UsedNumbers.{UsedNumbers}
use Rattle.lw_replica.specs.Fleets.{told_by}
use Rattle.lw_replica.specs.Parts.{fleet_of, used_numbers_of}
use Rattle.lw_replica.specs.Reading.{HasBit, TellsOf}
use Rattle.lw_replica.specs.inner.ReplicaState.{counted_in, counted_of, fleet_told_in}
use Rattle.lw_replica.specs.inner.Taking.{IsNotMerged, IsNotTaken}
use Rattle.lw_replica.proofs.Numbering.{noted_entry, noted_no_entry}
use Rattle.lw_replica.proofs.Merging.{takes_nothing, takes_delta, brings_none, brings_no_entry, on_ok, on_ok_four, same_none, same_parts}
use Rattle.lw_replica.proofs.Going.{below_same}
use Rattle.lw_replica.proofs.Refusing.{fleet_differs, if_err}
use Rattle.lw_replica.proofs.Telling.{tells_start}
use Rattle.lw_replica.proofs.state.ReplicaState.take.Goals as goal

pub returns-in-Err : goal.returns-in-Err
returns-in-Err c = record {
  taken = on_ok c.pass_over.result c.pass_over.ensures.known (λ known.
      takes_nothing c.args.self.now c.args.self.now c.args.bytes.now
      (λ newer. let bad = c.in-Err.ensures.newer.1 newer in known cc)
      (brings_no_entry c.args.bytes.now (λ x is. c.in-Err.ensures.only x is)) refl (λ h. (h, refl)) refl refl refl
      (noted_no_entry (used_numbers_of c.args.self.now) c.args.bytes.now (λ x is. c.in-Err.ensures.only x is))
      (inr (λ x is. c.in-Err.ensures.only x is, refl)) (inr (λ x is. c.in-Err.ensures.only x is, refl)));
  fault = c.pass_over.ensures.fault;
  refused = if_err _ _ c.pass_over.result c.pass_over.ensures.newer (λ fault h. inl (h.0, c.in-Err.ensures.newer.0 (ap Err h.1)));
  read_to = refl;
  sequence = refl;
  same = same_none c.args.self.now;
  covering = λ asked seen covering. covering;
}

pub returns-in-Start-clause-taken : goal.returns-in-Start-clause-taken
returns-in-Start-clause-taken c =
    let old = c.args.self.now in
    let new = c.hear_start.new.self in
    takes_nothing old new c.args.bytes.now
    (λ newer. let bad = c.in-Ok.ensures.newer.1 newer in cc)
    (brings_none c.args.bytes.now (content_of c.in-Ok.entry) (λ x is. c.in-Ok.ensures.only x is) (λ delta has. subst (λ b. HasDelta (body_content b) delta) c.in-Start.is has))
    (ap (λ (s : ReplicaState). s.node) c.hear_start.ensures.only)
    (λ h. (ap (λ (s : ReplicaState). s.settled) c.hear_start.ensures.only ∙ h, c.hear_start.ensures.fleet h))
    (ap (λ (s : ReplicaState). s.durable) c.hear_start.ensures.only)
    (ap (λ (s : ReplicaState). s.written) c.hear_start.ensures.only)
    (ap (λ (s : ReplicaState). s.sequence) c.hear_start.ensures.only)
    (noted_entry (used_numbers_of old) (used_numbers_of new) c.args.bytes.now (content_of c.in-Ok.entry) c.in-Ok.ensures.found (λ x is. c.in-Ok.ensures.only x is)
    (λ n. subst (λ (xs : List ℕ). HasBit xs n ↔ (HasBit (used_numbers_of old) n ⊎ ((c.in-Ok.entry.start.number ≡ n) ⊎ TellsOf n (body_content c.in-Ok.entry.body))))
    (sym (ap used_numbers_of c.hear_start.ensures.only)) (c.note.ensures n)))
    (inl (content_of c.in-Ok.entry, c.in-Ok.ensures.found, ap counted_in c.hear_start.ensures.only ∙ c.with_entry-self.ensures))
    (inl (
      content_of c.in-Ok.entry,
      c.in-Ok.ensures.found,
      ap (λ b. (b, fleet_of new)) (ap (λ (s : ReplicaState). s.settled) c.hear_start.ensures.only)
          ∙ ap (λ f. (old.settled, f)) (tells_start old.settled old.fleet new.fleet c.in-Ok.entry.fleet c.hear_start.ensures.fleet c.hear_start.ensures.first c.hear_start.ensures.later)
          ∙ ap (λ b. told_by (body_content b) c.in-Ok.entry.fleet.bytes (fleet_told_in old)) (sym c.in-Start.is),
    ))

pub returns-in-Delta-clause-taken : goal.returns-in-Delta-clause-taken
returns-in-Delta-clause-taken c =
    let bytes = c.args.bytes.now in
    let e = content_of c.in-Ok.entry in
    let delta = c.in-Delta.delta.now in
    let has : HasDelta (body_content c.in-Ok.entry.body) delta = subst (λ b. HasDelta (body_content b) delta) (sym c.in-Delta.is) refl in
    let d = c.in-Ok.ensures.found.spelled delta has in
    on_ok_four c.merge.result c.merge.ensures.merged c.merge.ensures.fleet c.merge.ensures.settled
    c.merge.ensures.durable
    (λ merged fleet settled durable. takes_delta c.args.self.now c.merge.new.self bytes e delta d.0 c.in-Ok.ensures.found (λ x is. c.in-Ok.ensures.only x is) has d.1 (λ newer. let bad = c.in-Ok.ensures.newer.1 newer in cc) (merged d.0 d.1) fleet.0 fleet.1 settled durable c.merge.ensures.written c.merge.ensures.sequence
    (λ n. subst (λ (x : UsedNumbers). HasBit x.bytes.value n ↔ (HasBit (used_numbers_of c.args.self.now) n ⊎ ((e.number ≡ n) ⊎ TellsOf n e.body)))
    (sym c.merge.ensures.used_numbers) (c.note.ensures n))
    (ap counted_of c.merge.ensures.size ∙ c.with_entry-self.ensures))

pub returns-in-Delta-clause-covering : goal.returns-in-Delta-clause-covering
returns-in-Delta-clause-covering c = λ asked seen covering.
    let delta = c.in-Delta.delta.now in
    let has : HasDelta (body_content c.in-Ok.entry.body) delta = subst (λ b. HasDelta (body_content b) delta) (sym c.in-Delta.is) refl in
    c.merge.ensures.covering asked c.args.bytes.now (λ d spelled. record { entry = content_of c.in-Ok.entry; delta = delta; is = c.in-Ok.ensures.found; has = has; spelled = spelled }) seen
    (record { written = covering.written; up_to = covering.up_to })

pub returns-in-Snapshot-clause-taken : goal.returns-in-Snapshot-clause-taken
returns-in-Snapshot-clause-taken c =
    let bytes = c.args.bytes.now in
    let e = content_of c.in-Ok.entry in
    let delta = c.in-Snapshot.delta.now in
    let has : HasDelta (body_content c.in-Ok.entry.body) delta = subst (λ b. HasDelta (body_content b) delta) (sym c.in-Snapshot.is) refl in
    let d = c.in-Ok.ensures.found.spelled delta has in
    on_ok_four c.merge-in-Snapshot.result c.merge-in-Snapshot.ensures.merged c.merge-in-Snapshot.ensures.fleet c.merge-in-Snapshot.ensures.settled c.merge-in-Snapshot.ensures.durable
    (λ merged fleet settled durable. takes_delta c.args.self.now c.merge-in-Snapshot.new.self bytes e delta d.0 c.in-Ok.ensures.found (λ x is. c.in-Ok.ensures.only x is) has d.1 (λ newer. let bad = c.in-Ok.ensures.newer.1 newer in cc) (merged d.0 d.1) fleet.0 fleet.1 settled durable c.merge-in-Snapshot.ensures.written c.merge-in-Snapshot.ensures.sequence
    (λ n. subst (λ (x : UsedNumbers). HasBit x.bytes.value n ↔ (HasBit (used_numbers_of c.args.self.now) n ⊎ ((e.number ≡ n) ⊎ TellsOf n e.body)))
    (sym c.merge-in-Snapshot.ensures.used_numbers) (c.note.ensures n))
    (ap counted_of c.merge-in-Snapshot.ensures.size ∙ c.with_entry-self.ensures))

pub returns-in-Snapshot-clause-covering : goal.returns-in-Snapshot-clause-covering
returns-in-Snapshot-clause-covering c = λ asked seen covering.
    let delta = c.in-Snapshot.delta.now in
    let has : HasDelta (body_content c.in-Ok.entry.body) delta = subst (λ b. HasDelta (body_content b) delta) (sym c.in-Snapshot.is) refl in
    c.merge-in-Snapshot.ensures.covering asked c.args.bytes.now (λ d spelled. record { entry = content_of c.in-Ok.entry; delta = delta; is = c.in-Ok.ensures.found; has = has; spelled = spelled }) seen
    (record { written = covering.written; up_to = covering.up_to })

pub returns-in-Start-clause-same : goal.returns-in-Start-clause-same
returns-in-Start-clause-same c =
    let old = c.args.self.now in
    let new = c.hear_start.new.self in
    let only = c.hear_start.ensures.only in
    record {
      number = ap (λ (s : ReplicaState). s.node.number) only;
      start = ap (λ (s : ReplicaState). s.start) only;
      proposed_fleet = ap (λ (s : ReplicaState). s.proposed_fleet) only;
      alone = ap (λ (s : ReplicaState). s.alone) only;
      claimed = ap (λ (s : ReplicaState). s.claimed) only;
      floor = ap (λ (s : ReplicaState). s.floor) only;
      settled = λ h. ap (λ (s : ReplicaState). s.settled) only ∙ h;
      fleet = λ f h was. ap (λ (x : Option FleetId). option_map (λ (y : FleetId). y.bytes) x) (c.hear_start.ensures.fleet h) ∙ was;
      knows = below_same old.node new.node (ap (λ (s : ReplicaState). s.node) only);
    }

pub returns-in-Delta-clause-same : goal.returns-in-Delta-clause-same
returns-in-Delta-clause-same c = same_parts c.args.self.now _ c.merge.new.self refl refl refl refl refl refl refl refl c.merge.ensures.same

pub returns-in-Snapshot-clause-same : goal.returns-in-Snapshot-clause-same
returns-in-Snapshot-clause-same c = same_parts c.args.self.now _ c.merge-in-Snapshot.new.self refl refl refl refl refl refl refl refl c.merge-in-Snapshot.ensures.same

pub returns-in-Delta-clause-refused : goal.returns-in-Delta-clause-refused
returns-in-Delta-clause-refused c =
    let e = content_of c.in-Ok.entry in
    let delta = c.in-Delta.delta.now in
    let has : HasDelta (body_content c.in-Ok.entry.body) delta = subst (λ b. HasDelta (body_content b) delta) (sym c.in-Delta.is) refl in
    let d = c.in-Ok.ensures.found.spelled delta has in
    if_err (IsNotMerged c.merge.new.self c.in-Ok.entry.fleet) (IsNotTaken c.merge.new.self c.args.bytes.now) c.merge.result c.merge.ensures.refused (λ fault h. elim h [
      | inl x ↦ inr (inl (x.0, x.1, (d.0, record { entry = e; delta = delta; is = c.in-Ok.ensures.found; has = has; spelled = d.1 }, fleet_differs c.merge.new.self.fleet c.in-Ok.entry.fleet x.2)))
      | inr none ↦ inr (inr none)
    ])

pub returns-in-Snapshot-clause-refused : goal.returns-in-Snapshot-clause-refused
returns-in-Snapshot-clause-refused c =
    let e = content_of c.in-Ok.entry in
    let delta = c.in-Snapshot.delta.now in
    let has : HasDelta (body_content c.in-Ok.entry.body) delta = subst (λ b. HasDelta (body_content b) delta) (sym c.in-Snapshot.is) refl in
    let d = c.in-Ok.ensures.found.spelled delta has in
    if_err (IsNotMerged c.merge-in-Snapshot.new.self c.in-Ok.entry.fleet) (IsNotTaken c.merge-in-Snapshot.new.self c.args.bytes.now) c.merge-in-Snapshot.result c.merge-in-Snapshot.ensures.refused (λ fault h. elim h [
      | inl x ↦ inr (inl (x.0, x.1, (d.0, record { entry = e; delta = delta; is = c.in-Ok.ensures.found; has = has; spelled = d.1 }, fleet_differs c.merge-in-Snapshot.new.self.fleet c.in-Ok.entry.fleet x.2)))
      | inr none ↦ inr (inr none)
    ])
