use Rattle.std.proofs.Common.{◌≡◌, ◌++◌, [], List, ap, ◌∙◌, sym, subst}
use Rattle.lw_call.specs.declared.reply.Reply.{Reply}
use Rattle.lw_replica.specs.Rounds.{Makes}
use Rattle.lw_replica.proofs.Catching.{replica_goes}
use Rattle.lw_replica.proofs.Merging.{same_made, same_none, same_then}
use Rattle.lw_replica.proofs.Owning.{writes_from}
use Rattle.lw_replica.specs.Parts.{content_of}
use Rattle.lw_replica.specs.declared.state.ReplicaState.{ReplicaState}
use Rattle.lw_replica.proofs.Asking.{calls_none}
use Rattle.lw_replica.proofs.Sequences.{used_numbers_none, used_numbers_read, used_numbers_then}
use Rattle.lw_replica.proofs.Refusing.{raised, refuses_memory, refuses_then}
use Rattle.std.proofs.Common.{refl}
use Rattle.lw_replica.proofs.rounds.finish.Goals as goal

pub returns-clause-finished : goal.returns-clause-finished
returns-clause-finished g c =
    let s0 = c.args.state.now in
    let mid = c.make.new.self in
    let m = replica_goes _ s0 mid c.make.ensures.only c.make.ensures.goes c.make.ensures.covering c.requires in
    let made = c.make.ensures.made in
    let items : c.make.new.replies.items ≡ made.0 = made.1 ∙ ap (λ (xs : List Reply). xs ++ made.0) c.in_ok-replies.ensures.items in
    record {
      mid = mid;
      made = record { made = subst (λ rs. Makes s0.node c.args.calls.now rs mid.node) (sym items) made.2; goes = c.make.ensures.goes; still = c.make.ensures.durable; only = c.make.ensures.only };
      written = record { now = c.in_ok-write.ensures.written m; same = c.write.ensures.same; node = c.write.ensures.node; fleet = c.write.ensures.fleet; settled = c.write.ensures.settled; used_numbers = c.write.ensures.used_numbers; replica = c.write.ensures.replica m };
    }

pub returns-in_err-write-clause-own : goal.returns-in_err-write-clause-own
returns-in_err-write-clause-own g c =
    writes_from _ _ c.args.state.now c.make.new.self c.write.new.state c.make.ensures.only (c.write.ensures.own (replica_goes _ c.args.state.now c.make.new.self c.make.ensures.only c.make.ensures.goes c.make.ensures.covering c.requires))

pub returns-in_err-write-clause-replica : goal.returns-in_err-write-clause-replica
returns-in_err-write-clause-replica g c = c.write.ensures.replica (replica_goes _ c.args.state.now c.make.new.self c.make.ensures.only c.make.ensures.goes c.make.ensures.covering c.requires)

pub returns-clause-own : goal.returns-clause-own
returns-clause-own g c =
    writes_from _ _ c.args.state.now c.make.new.self c.write.new.state c.make.ensures.only (c.write.ensures.own (replica_goes _ c.args.state.now c.make.new.self c.make.ensures.only c.make.ensures.goes c.make.ensures.covering c.requires))

pub returns-clause-replica : goal.returns-clause-replica
returns-clause-replica g c = c.write.ensures.replica (replica_goes _ c.args.state.now c.make.new.self c.make.ensures.only c.make.ensures.goes c.make.ensures.covering c.requires)

pub returns-in_err-replies-clause-same : goal.returns-in_err-replies-clause-same
returns-in_err-replies-clause-same g c = same_none c.args.state.now

pub returns-in_err-write-clause-same : goal.returns-in_err-write-clause-same
returns-in_err-write-clause-same g c =
    same_then c.args.state.now c.make.new.self c.write.new.state (same_made c.args.state.now c.make.new.self c.make.ensures.only c.make.ensures.goes) c.write.ensures.same

pub returns-clause-same : goal.returns-clause-same
returns-clause-same g c =
    same_then c.args.state.now c.make.new.self c.write.new.state (same_made c.args.state.now c.make.new.self c.make.ensures.only c.make.ensures.goes) c.write.ensures.same

pub returns-in_err-replies-clause-sequence : goal.returns-in_err-replies-clause-sequence
returns-in_err-replies-clause-sequence g c = used_numbers_none (content_of (g.G.DeltaLog.calls c.args.log.now) c.args.state.now)

pub returns-in_err-write-clause-sequence : goal.returns-in_err-write-clause-sequence
returns-in_err-write-clause-sequence g c =
    used_numbers_then (content_of _ c.args.state.now) (content_of _ c.make.new.self) (content_of _ c.write.new.state) (used_numbers_read (content_of _ c.args.state.now) (content_of _ c.make.new.self) [] (calls_none _) tt (ap (λ (x : ReplicaState). x.sequence) c.make.ensures.only)) c.write.ensures.sequence

pub returns-clause-sequence : goal.returns-clause-sequence
returns-clause-sequence g c =
    used_numbers_then (content_of _ c.args.state.now) (content_of _ c.make.new.self) (content_of _ c.write.new.state) (used_numbers_read (content_of _ c.args.state.now) (content_of _ c.make.new.self) [] (calls_none _) tt (ap (λ (x : ReplicaState). x.sequence) c.make.ensures.only)) c.write.ensures.sequence

pub returns-in_err-replies-clause-refused : goal.returns-in_err-replies-clause-refused
returns-in_err-replies-clause-refused g c =
    raised _ c.from_residual.result c.from_residual.ensures.1 (refuses_memory (content_of _ c.args.state.now) (content_of _ c.args.state.now) [] _ refl (calls_none (g.G.DeltaLog.calls c.args.log.now)))

pub returns-in_err-write-clause-refused : goal.returns-in_err-write-clause-refused
returns-in_err-write-clause-refused g c =
    raised _ c.from_residual-in_err-write.result c.from_residual-in_err-write.ensures.1 (refuses_then (content_of _ c.args.state.now) (content_of _ c.make.new.self) (content_of _ c.write.new.state) [] _ (calls_none (g.G.DeltaLog.calls c.args.log.now)) c.in_err-write.ensures.refused)
