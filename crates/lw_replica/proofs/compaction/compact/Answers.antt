use Rattle.std.proofs.Common.{inl, inr, Option, ap, refl}
use Rattle.std.specs.Prelude.{option_map}
use Rattle.lw_log.specs.Calls.{place_of}
use Rattle.lw_log.specs.declared.entry.FleetId.{FleetId}
use Rattle.lw_replica.proofs.Asking.{calls_none}
use Rattle.lw_replica.proofs.Catching.{replica_more}
use Rattle.lw_replica.proofs.Compacting.{none_of, compacted_none, compacted_kept, compacted_snapshot, compacts_kept, compacts_none, compacts_read, compacts_tried, compacts_trimmed}
use Rattle.lw_replica.specs.Parts.{content_of}
use Rattle.lw_replica.proofs.Sequences.{used_numbers_read, used_numbers_then, used_numbers_trim}
use Rattle.lw_log.specs.Calls.LogCall.{Wrote}
use Rattle.lw_replica.proofs.Asking.{calls_then}
use Rattle.lw_replica.proofs.Refusing.{raised, refuses_log, refuses_then}
use Rattle.std.proofs.Common.{[], ◌∷◌}
use Rattle.lw_replica.proofs.compaction.compact.Goals as goal

pub returns-in_err-catch_up-clause-own : goal.returns-in_err-catch_up-clause-own
returns-in_err-catch_up-clause-own g c =
    compacts_read _ _ c.args.state.now c.catch_up.new.state c.catch_up.ensures.same c.catch_up.ensures.asked

pub returns-in_default-clause-compacted : goal.returns-in_default-clause-compacted
returns-in_default-clause-compacted g c =
    let read = c.in_ok-catch_up.ensures.read in
    compacted_none _ _ c.args.state.now c.catch_up.new.state read.0 c.in_ok-catch_up.field-0 read.1 read.2 read.3 read.4 read.5 c.catch_up.ensures.same c.requires (inl (ap place_of (none_of _ c.in_default.not-Some)))

pub returns-in_default-clause-own : goal.returns-in_default-clause-own
returns-in_default-clause-own g c =
    let read = c.in_ok-catch_up.ensures.read in
    compacts_none _ _ c.args.state.now c.catch_up.new.state read.0 c.in_ok-catch_up.field-0 read.1 read.2 read.3 read.4 read.5 c.catch_up.ensures.same c.requires

pub returns-in_default-fleet-clause-compacted : goal.returns-in_default-fleet-clause-compacted
returns-in_default-fleet-clause-compacted g c =
    let read = c.in_ok-catch_up.ensures.read in
    compacted_none _ _ c.args.state.now c.catch_up.new.state read.0 c.in_ok-catch_up.field-0 read.1 read.2 read.3 read.4 read.5 c.catch_up.ensures.same c.requires
    (inr (ap (λ (f : Option FleetId). option_map (λ (x : FleetId). x.bytes) f) (none_of _ c.in_default-fleet.not-Some)))

pub returns-in_default-fleet-clause-own : goal.returns-in_default-fleet-clause-own
returns-in_default-fleet-clause-own g c =
    let read = c.in_ok-catch_up.ensures.read in
    compacts_none _ _ c.args.state.now c.catch_up.new.state read.0 c.in_ok-catch_up.field-0 read.1 read.2 read.3 read.4 read.5 c.catch_up.ensures.same c.requires

pub returns-in_err-position-clause-own : goal.returns-in_err-position-clause-own
returns-in_err-position-clause-own g c =
    let read = c.in_ok-catch_up.ensures.read in
    let fleet = ap (λ (f : Option FleetId). option_map (λ (x : FleetId). x.bytes) f) c.in-Some-fleet.is in
    compacts_tried _ _ c.args.state.now c.catch_up.new.state read.0 c.in_ok-catch_up.field-0 read.1 read.2 read.3 read.4 read.5 c.catch_up.ensures.same c.requires
    _ c.write_snapshot.new.state c.in-Some-fleet.fleet.bytes fleet c.write_snapshot.ensures.same c.write_snapshot.ensures.node c.write_snapshot.ensures.fleet c.write_snapshot.ensures.settled c.write_snapshot.ensures.used_numbers c.in_err-position.ensures.own

pub returns-in_err-trim-clause-own : goal.returns-in_err-trim-clause-own
returns-in_err-trim-clause-own g c =
    let read = c.in_ok-catch_up.ensures.read in
    let fleet = ap (λ (f : Option FleetId). option_map (λ (x : FleetId). x.bytes) f) c.in-Some-fleet.is in
    compacts_trimmed _ _ c.args.state.now c.catch_up.new.state read.0 c.in_ok-catch_up.field-0 read.1 read.2 read.3 read.4 read.5 c.catch_up.ensures.same c.requires
    _ c.write_snapshot.new.state c.in-Some-fleet.fleet.bytes fleet c.write_snapshot.ensures.same c.write_snapshot.ensures.node c.write_snapshot.ensures.fleet c.write_snapshot.ensures.settled c.write_snapshot.ensures.used_numbers
    _ c.in-Some.upto c.in-Some.is c.in_ok-position.position c.in_ok-position.ensures.written (c.if-stands_before.ensures.0 refl) c.trim.result c.trim.ensures

pub returns-in_err-trim-clause-replica : goal.returns-in_err-trim-clause-replica
returns-in_err-trim-clause-replica g c =
    replica_more _ _ _ c.write_snapshot.new.state c.trim.ensures c.write_snapshot.ensures.replica

pub returns-in_ok-trim-clause-compacted : goal.returns-in_ok-trim-clause-compacted
returns-in_ok-trim-clause-compacted g c =
    let read = c.in_ok-catch_up.ensures.read in
    let fleet = ap (λ (f : Option FleetId). option_map (λ (x : FleetId). x.bytes) f) c.in-Some-fleet.is in
    compacted_snapshot _ _ c.args.state.now c.catch_up.new.state read.0 c.in_ok-catch_up.field-0 read.1 read.2 read.3 read.4 read.5 c.catch_up.ensures.same c.requires
    _ c.write_snapshot.new.state c.in-Some-fleet.fleet.bytes fleet c.write_snapshot.ensures.same c.write_snapshot.ensures.node c.write_snapshot.ensures.fleet c.write_snapshot.ensures.settled c.write_snapshot.ensures.used_numbers
    _ c.in-Some.upto c.in-Some.is c.in_ok-position.position c.in_ok-position.ensures.written (c.if-stands_before.ensures.0 refl) c.in_ok-trim.ensures (replica_more _ _ _ c.write_snapshot.new.state c.trim.ensures c.write_snapshot.ensures.replica)

pub returns-in_ok-trim-clause-own : goal.returns-in_ok-trim-clause-own
returns-in_ok-trim-clause-own g c =
    let read = c.in_ok-catch_up.ensures.read in
    let fleet = ap (λ (f : Option FleetId). option_map (λ (x : FleetId). x.bytes) f) c.in-Some-fleet.is in
    compacts_trimmed _ _ c.args.state.now c.catch_up.new.state read.0 c.in_ok-catch_up.field-0 read.1 read.2 read.3 read.4 read.5 c.catch_up.ensures.same c.requires
    _ c.write_snapshot.new.state c.in-Some-fleet.fleet.bytes fleet c.write_snapshot.ensures.same c.write_snapshot.ensures.node c.write_snapshot.ensures.fleet c.write_snapshot.ensures.settled c.write_snapshot.ensures.used_numbers
    _ c.in-Some.upto c.in-Some.is c.in_ok-position.position c.in_ok-position.ensures.written (c.if-stands_before.ensures.0 refl) c.trim.result c.trim.ensures

pub returns-in_ok-trim-clause-replica : goal.returns-in_ok-trim-clause-replica
returns-in_ok-trim-clause-replica g c =
    replica_more _ _ _ c.write_snapshot.new.state c.trim.ensures c.write_snapshot.ensures.replica

pub returns-else-stands_before-clause-compacted : goal.returns-else-stands_before-clause-compacted
returns-else-stands_before-clause-compacted g c =
    let read = c.in_ok-catch_up.ensures.read in
    let fleet = ap (λ (f : Option FleetId). option_map (λ (x : FleetId). x.bytes) f) c.in-Some-fleet.is in
    compacted_kept _ _ c.args.state.now c.catch_up.new.state read.0 c.in_ok-catch_up.field-0 read.1 read.2 read.3 read.4 read.5 c.catch_up.ensures.same c.requires
    _ c.write_snapshot.new.state c.in-Some-fleet.fleet.bytes fleet c.write_snapshot.ensures.same c.write_snapshot.ensures.node c.write_snapshot.ensures.fleet c.write_snapshot.ensures.settled c.write_snapshot.ensures.used_numbers
    _ c.in-Some.upto c.in-Some.is c.in_ok-position.position c.in_ok-position.ensures.written (λ h. let bad = c.if-stands_before.ensures.1 h in cc) (calls_none _) c.write_snapshot.ensures.replica

pub returns-else-stands_before-clause-own : goal.returns-else-stands_before-clause-own
returns-else-stands_before-clause-own g c =
    let read = c.in_ok-catch_up.ensures.read in
    let fleet = ap (λ (f : Option FleetId). option_map (λ (x : FleetId). x.bytes) f) c.in-Some-fleet.is in
    compacts_kept _ _ c.args.state.now c.catch_up.new.state read.0 c.in_ok-catch_up.field-0 read.1 read.2 read.3 read.4 read.5 c.catch_up.ensures.same c.requires
    _ c.write_snapshot.new.state c.in-Some-fleet.fleet.bytes fleet c.write_snapshot.ensures.same c.write_snapshot.ensures.node c.write_snapshot.ensures.fleet c.write_snapshot.ensures.settled c.write_snapshot.ensures.used_numbers
    _ c.in-Some.upto c.in-Some.is c.in_ok-position.position c.in_ok-position.ensures.written (calls_none _)

pub returns-in_err-catch_up-clause-sequence : goal.returns-in_err-catch_up-clause-sequence
returns-in_err-catch_up-clause-sequence g c =
    used_numbers_read (content_of _ c.args.state.now) (content_of _ c.catch_up.new.state) c.catch_up.ensures.asked.0 c.catch_up.ensures.asked.1 c.catch_up.ensures.asked.2 c.catch_up.ensures.sequence

pub returns-in_default-clause-sequence : goal.returns-in_default-clause-sequence
returns-in_default-clause-sequence g c =
    used_numbers_read (content_of _ c.args.state.now) (content_of _ c.catch_up.new.state) c.catch_up.ensures.asked.0 c.catch_up.ensures.asked.1 c.catch_up.ensures.asked.2 c.catch_up.ensures.sequence

pub returns-in_default-fleet-clause-sequence : goal.returns-in_default-fleet-clause-sequence
returns-in_default-fleet-clause-sequence g c =
    used_numbers_read (content_of _ c.args.state.now) (content_of _ c.catch_up.new.state) c.catch_up.ensures.asked.0 c.catch_up.ensures.asked.1 c.catch_up.ensures.asked.2 c.catch_up.ensures.sequence

pub returns-in_err-position-clause-sequence : goal.returns-in_err-position-clause-sequence
returns-in_err-position-clause-sequence g c =
    used_numbers_then (content_of _ c.args.state.now) (content_of _ c.catch_up.new.state) (content_of _ c.write_snapshot.new.state) (used_numbers_read (content_of _ c.args.state.now) (content_of _ c.catch_up.new.state) c.catch_up.ensures.asked.0 c.catch_up.ensures.asked.1 c.catch_up.ensures.asked.2 c.catch_up.ensures.sequence) c.write_snapshot.ensures.sequence

pub returns-in_err-trim-clause-sequence : goal.returns-in_err-trim-clause-sequence
returns-in_err-trim-clause-sequence g c =
    used_numbers_then (content_of _ c.args.state.now) (content_of _ c.write_snapshot.new.state) (content_of _ c.write_snapshot.new.state)
    (used_numbers_then (content_of _ c.args.state.now) (content_of _ c.catch_up.new.state) (content_of _ c.write_snapshot.new.state) (used_numbers_read (content_of _ c.args.state.now) (content_of _ c.catch_up.new.state) c.catch_up.ensures.asked.0 c.catch_up.ensures.asked.1 c.catch_up.ensures.asked.2 c.catch_up.ensures.sequence) c.write_snapshot.ensures.sequence)
    (used_numbers_trim (content_of _ c.write_snapshot.new.state) (content_of _ c.write_snapshot.new.state) c.in-Some.upto c.trim.result c.trim.ensures refl)

pub returns-in_ok-trim-clause-sequence : goal.returns-in_ok-trim-clause-sequence
returns-in_ok-trim-clause-sequence g c =
    used_numbers_then (content_of _ c.args.state.now) (content_of _ c.write_snapshot.new.state) (content_of _ c.write_snapshot.new.state)
    (used_numbers_then (content_of _ c.args.state.now) (content_of _ c.catch_up.new.state) (content_of _ c.write_snapshot.new.state) (used_numbers_read (content_of _ c.args.state.now) (content_of _ c.catch_up.new.state) c.catch_up.ensures.asked.0 c.catch_up.ensures.asked.1 c.catch_up.ensures.asked.2 c.catch_up.ensures.sequence) c.write_snapshot.ensures.sequence)
    (used_numbers_trim (content_of _ c.write_snapshot.new.state) (content_of _ c.write_snapshot.new.state) c.in-Some.upto c.trim.result c.trim.ensures refl)

pub returns-else-stands_before-clause-sequence : goal.returns-else-stands_before-clause-sequence
returns-else-stands_before-clause-sequence g c =
    used_numbers_then (content_of _ c.args.state.now) (content_of _ c.catch_up.new.state) (content_of _ c.write_snapshot.new.state) (used_numbers_read (content_of _ c.args.state.now) (content_of _ c.catch_up.new.state) c.catch_up.ensures.asked.0 c.catch_up.ensures.asked.1 c.catch_up.ensures.asked.2 c.catch_up.ensures.sequence) c.write_snapshot.ensures.sequence

pub returns-in_err-position-clause-refused : goal.returns-in_err-position-clause-refused
returns-in_err-position-clause-refused g c =
    raised _ c.from_residual-in_err-position.result c.from_residual-in_err-position.ensures.1 (refuses_then (content_of _ c.args.state.now) (content_of _ c.catch_up.new.state) (content_of _ c.write_snapshot.new.state) c.catch_up.ensures.asked.0 _ c.catch_up.ensures.asked.1 c.in_err-position.ensures.refused)

pub returns-in_err-trim-clause-refused : goal.returns-in_err-trim-clause-refused
returns-in_err-trim-clause-refused g c =
    let written = c.in_ok-position.ensures.written in
    raised _ c.from_residual-in_err-trim.result c.from_residual-in_err-trim.ensures.1 (refuses_log (content_of _ c.args.state.now) (content_of _ c.write_snapshot.new.state) _ c.in_err-trim.field-0.0 _ refl (calls_then _ _ _ c.catch_up.ensures.asked.0 _ c.catch_up.ensures.asked.1 (calls_then _ _ _ (Wrote written.place ∷ []) _ written.asked c.trim.ensures)))
