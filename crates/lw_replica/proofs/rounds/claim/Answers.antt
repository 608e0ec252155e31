use Rattle.std.proofs.Common.{◌≡◌, ◌<◌, [], ◌∷◌, Some, true, ap, ◌∙◌, sym, refl, subst}
use Rattle.lw_replica.specs.declared.state.ReplicaState.{ReplicaState}
use Rattle.lw_replica.specs.Parts.{fleet_of}
use Rattle.lw_replica.proofs.Asking.{calls_none, calls_then}
use Rattle.lw_replica.proofs.Catching.{replica_failed, replica_goes, replica_claimed}
use Rattle.lw_replica.proofs.Claiming.{claim_is, claims_failed, claims_more, claims_read}
use Rattle.lw_replica.proofs.Merging.{on_err, same_failed, same_made, same_then, same_unclaimed}
use Rattle.lw_replica.specs.Parts.{content_of}
use Rattle.lw_replica.proofs.Sequences.{used_numbers_read, used_numbers_then}
use Rattle.lw_log.specs.Calls.LogCall.{Wrote}
use Rattle.lw_replica.proofs.Refusing.{raised, refuses_memory, refuses_then}
use Rattle.lw_replica.proofs.rounds.claim.Goals as goal

pub returns-in_err-own-clause-own : goal.returns-in_err-own-clause-own
returns-in_err-own-clause-own g c =
    claims_read _ _ _ c.args.state.now c.write_start.new.state c.catch_up.new.state _ c.in_ok-fleet.ensures.started c.write_start.ensures.same c.catch_up.ensures.same c.catch_up.ensures.asked

pub returns-clause-own : goal.returns-clause-own
returns-clause-own g c =
    claims_read _ _ _ c.args.state.now c.write_start.new.state c.catch_up.new.state _ c.in_ok-fleet.ensures.started c.write_start.ensures.same c.catch_up.ensures.same c.catch_up.ensures.asked

pub raise-requires : goal.raise-requires
raise-requires g c = subst (λ n. n < 262556467200000) (sym (c.catch_up.ensures.same.floor ∙ c.in_ok-fleet.ensures.same.floor)) c.requires.floor

pub returns-in_err-raise-clause-own : goal.returns-in_err-raise-clause-own
returns-in_err-raise-clause-own g c =
    claims_more _ _ c.args.state.now c.catch_up.new.state c.raise.new.self (ap (λ (x : ReplicaState). x.read_to) c.raise.ensures.only) c.raise.ensures.goes
    (claims_read _ _ _ c.args.state.now c.write_start.new.state c.catch_up.new.state _ c.in_ok-fleet.ensures.started c.write_start.ensures.same c.catch_up.ensures.same c.catch_up.ensures.asked)

pub returns-in_err-raise-clause-replica : goal.returns-in_err-raise-clause-replica
returns-in_err-raise-clause-replica g c = λ m. replica_goes _ c.catch_up.new.state c.raise.new.self c.raise.ensures.only c.raise.ensures.goes c.raise.ensures.covering (c.catch_up.ensures.replica (c.in_ok-fleet.ensures.replica m))

pub returns-then-is_in-clause-claimed : goal.returns-then-is_in-clause-claimed
returns-then-is_in-clause-claimed g c = λ m.
    let read = c.in_ok-own.ensures.read in
    let fleet : fleet_of c.catch_up.new.state ≡ Some c.in_ok-fleet.fleet.bytes = c.if-is_in.ensures.0 refl in
    claim_is _ _ _ c.args.state.now c.write_start.new.state c.catch_up.new.state c.raise.new.self c.in_ok-fleet.fleet.bytes c.in_ok-own.own read.0
    c.in_ok-fleet.ensures.started read.1 read.2 read.3 read.4 c.catch_up.ensures.same fleet read.5 m.number c.requires.unclaimed (c.catch_up.ensures.replica (c.in_ok-fleet.ensures.replica m))
    (c.if-is_gone.ensures.shown refl) c.in_ok-raise.ensures.raised c.in_ok-raise.ensures.durable c.raise.ensures.only c.raise.ensures.goes

pub returns-then-is_in-clause-own : goal.returns-then-is_in-clause-own
returns-then-is_in-clause-own g c =
    claims_more _ _ c.args.state.now c.catch_up.new.state (record c.raise.new.self { claimed = true }) (ap (λ (x : ReplicaState). x.read_to) c.raise.ensures.only) c.raise.ensures.goes
    (claims_read _ _ _ c.args.state.now c.write_start.new.state c.catch_up.new.state _ c.in_ok-fleet.ensures.started c.write_start.ensures.same c.catch_up.ensures.same c.catch_up.ensures.asked)

pub returns-then-is_in-clause-replica : goal.returns-then-is_in-clause-replica
returns-then-is_in-clause-replica g c = λ m. replica_claimed _ c.raise.new.self true (replica_goes _ c.catch_up.new.state c.raise.new.self c.raise.ensures.only c.raise.ensures.goes c.raise.ensures.covering (c.catch_up.ensures.replica (c.in_ok-fleet.ensures.replica m)))

pub returns-in_err-raise-clause-same : goal.returns-in_err-raise-clause-same
returns-in_err-raise-clause-same g c =
    on_err _ (same_then _ _ _ (same_then _ _ _ c.write_start.ensures.same c.catch_up.ensures.same) (same_made c.catch_up.new.state c.raise.new.self c.raise.ensures.only c.raise.ensures.goes))

pub returns-in_err-own-clause-same : goal.returns-in_err-own-clause-same
returns-in_err-own-clause-same g c = on_err _ (same_then _ _ _ c.write_start.ensures.same c.catch_up.ensures.same)

pub returns-then-is_in-clause-start : goal.returns-then-is_in-clause-start
returns-then-is_in-clause-start g c =
    let same = same_then _ _ _ (same_then _ _ _ c.write_start.ensures.same c.catch_up.ensures.same) (same_made c.catch_up.new.state c.raise.new.self c.raise.ensures.only c.raise.ensures.goes) in
    (same_unclaimed c.args.state.now c.raise.new.self same c.requires.unclaimed, refl)

pub returns-clause-same : goal.returns-clause-same
returns-clause-same g c = same_then _ _ _ c.write_start.ensures.same c.catch_up.ensures.same

pub returns-then-is_gone-clause-own : goal.returns-then-is_gone-clause-own
returns-then-is_gone-clause-own g c =
    claims_failed _ _ c.args.state.now c.catch_up.new.state c.failed.new.self c.failed.ensures.only c.failed.ensures.read_to
    (claims_read _ _ _ c.args.state.now c.write_start.new.state c.catch_up.new.state _ c.in_ok-fleet.ensures.started c.write_start.ensures.same c.catch_up.ensures.same c.catch_up.ensures.asked)

pub returns-then-is_gone-clause-same : goal.returns-then-is_gone-clause-same
returns-then-is_gone-clause-same g c =
    same_then _ _ _ (same_then _ _ _ c.write_start.ensures.same c.catch_up.ensures.same) (same_failed c.catch_up.new.state c.failed.new.self c.failed.ensures.only)

pub returns-then-is_gone-clause-replica : goal.returns-then-is_gone-clause-replica
returns-then-is_gone-clause-replica g c = λ m.
    replica_failed _ _ [] c.catch_up.new.state c.failed.new.self (calls_none _) c.failed.ensures.only c.failed.ensures.covering (c.catch_up.ensures.replica (c.in_ok-fleet.ensures.replica m))

pub returns-in_err-own-clause-sequence : goal.returns-in_err-own-clause-sequence
returns-in_err-own-clause-sequence g c =
    used_numbers_then (content_of _ c.args.state.now) (content_of _ c.write_start.new.state) (content_of _ c.catch_up.new.state) c.write_start.ensures.sequence (used_numbers_read (content_of _ c.write_start.new.state) (content_of _ c.catch_up.new.state) c.catch_up.ensures.asked.0 c.catch_up.ensures.asked.1 c.catch_up.ensures.asked.2 c.catch_up.ensures.sequence)

pub returns-clause-sequence : goal.returns-clause-sequence
returns-clause-sequence g c =
    used_numbers_then (content_of _ c.args.state.now) (content_of _ c.write_start.new.state) (content_of _ c.catch_up.new.state) c.write_start.ensures.sequence (used_numbers_read (content_of _ c.write_start.new.state) (content_of _ c.catch_up.new.state) c.catch_up.ensures.asked.0 c.catch_up.ensures.asked.1 c.catch_up.ensures.asked.2 c.catch_up.ensures.sequence)

pub returns-then-is_gone-clause-sequence : goal.returns-then-is_gone-clause-sequence
returns-then-is_gone-clause-sequence g c =
    used_numbers_then (content_of _ c.args.state.now) (content_of _ c.catch_up.new.state) (content_of _ c.failed.new.self)
    (used_numbers_then (content_of _ c.args.state.now) (content_of _ c.write_start.new.state) (content_of _ c.catch_up.new.state) c.write_start.ensures.sequence (used_numbers_read (content_of _ c.write_start.new.state) (content_of _ c.catch_up.new.state) c.catch_up.ensures.asked.0 c.catch_up.ensures.asked.1 c.catch_up.ensures.asked.2 c.catch_up.ensures.sequence))
    (used_numbers_read (content_of _ c.catch_up.new.state) (content_of _ c.failed.new.self) [] (calls_none _) tt (ap (λ (x : ReplicaState). x.sequence) c.failed.ensures.only))

pub returns-in_err-raise-clause-sequence : goal.returns-in_err-raise-clause-sequence
returns-in_err-raise-clause-sequence g c =
    used_numbers_then (content_of _ c.args.state.now) (content_of _ c.catch_up.new.state) (content_of _ c.raise.new.self)
    (used_numbers_then (content_of _ c.args.state.now) (content_of _ c.write_start.new.state) (content_of _ c.catch_up.new.state) c.write_start.ensures.sequence (used_numbers_read (content_of _ c.write_start.new.state) (content_of _ c.catch_up.new.state) c.catch_up.ensures.asked.0 c.catch_up.ensures.asked.1 c.catch_up.ensures.asked.2 c.catch_up.ensures.sequence))
    (used_numbers_read (content_of _ c.catch_up.new.state) (content_of _ c.raise.new.self) [] (calls_none _) tt (ap (λ (x : ReplicaState). x.sequence) c.raise.ensures.only))

pub returns-then-is_in-clause-sequence : goal.returns-then-is_in-clause-sequence
returns-then-is_in-clause-sequence g c =
    used_numbers_then (content_of _ c.args.state.now) (content_of _ c.catch_up.new.state) (content_of _ (record c.raise.new.self { claimed = true }))
    (used_numbers_then (content_of _ c.args.state.now) (content_of _ c.write_start.new.state) (content_of _ c.catch_up.new.state) c.write_start.ensures.sequence (used_numbers_read (content_of _ c.write_start.new.state) (content_of _ c.catch_up.new.state) c.catch_up.ensures.asked.0 c.catch_up.ensures.asked.1 c.catch_up.ensures.asked.2 c.catch_up.ensures.sequence))
    (used_numbers_read (content_of _ c.catch_up.new.state) (content_of _ (record c.raise.new.self { claimed = true })) [] (calls_none _) tt (ap (λ (x : ReplicaState). x.sequence) c.raise.ensures.only))

pub returns-in_err-own-clause-refused : goal.returns-in_err-own-clause-refused
returns-in_err-own-clause-refused g c =
    raised _ c.from_residual-in_err-own.result c.from_residual-in_err-own.ensures.1 (refuses_then (content_of _ c.args.state.now) (content_of _ c.write_start.new.state) (content_of _ c.catch_up.new.state) (Wrote c.in_ok-fleet.ensures.started.place ∷ []) _ c.in_ok-fleet.ensures.started.asked c.in_err-own.ensures.refused)

pub returns-then-is_gone-clause-refused : goal.returns-then-is_gone-clause-refused
returns-then-is_gone-clause-refused g c =
    record { more = _; asked = (calls_then _ _ _ (Wrote c.in_ok-fleet.ensures.started.place ∷ []) c.catch_up.ensures.asked.0 c.in_ok-fleet.ensures.started.asked c.catch_up.ensures.asked.1); why = tt }

pub returns-in_err-raise-clause-refused : goal.returns-in_err-raise-clause-refused
returns-in_err-raise-clause-refused g c =
    raised _ c.from_residual-in_err-raise.result c.from_residual-in_err-raise.ensures.1 (refuses_memory (content_of _ c.args.state.now) (content_of _ c.raise.new.self) _ _ c.in_err-raise.ensures.memory (calls_then _ _ _ (Wrote c.in_ok-fleet.ensures.started.place ∷ []) c.catch_up.ensures.asked.0 c.in_ok-fleet.ensures.started.asked c.catch_up.ensures.asked.1))

pub returns-clause-refused : goal.returns-clause-refused
returns-clause-refused g c =
    record { more = _; asked = (calls_then _ _ _ (Wrote c.in_ok-fleet.ensures.started.place ∷ []) c.catch_up.ensures.asked.0 c.in_ok-fleet.ensures.started.asked c.catch_up.ensures.asked.1); why = tt }
