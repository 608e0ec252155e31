use Rattle.std.proofs.Common.{rules, sym, refl, arith}
use Rattle.lw_replica.proofs.Going.{goes_merges}
use Rattle.lw_replica.proofs.Merging.{merged_snapshot, covering_taken, covering_kept, same_merged, same_none}
use Rattle.lw_replica.proofs.Covering.{written_goes}
use Rattle.lw_replica.proofs.state.ReplicaState.merge.Goals as goal

pub returns-then-is_err-clause-covering : goal.returns-then-is_err-clause-covering
returns-then-is_err-clause-covering c = λ asked bytes brings seen covering.
    let goes = goes_merges c.args.self.now.node c.merge-merged.new.self c.args.delta.now c.merge-merged.result c.merge-merged.ensures.merges in
    let e = c.change-change.ensures in
    let r = c.change-change.type_inv in
    record { written = written_goes asked c.args.self.now.node c.merge-merged.new.self c.args.self.now.durable c.args.self.now.written goes (omega (arith, e, r)) covering.written; up_to = λ f. absurd cc }

pub returns-then-self-2-clause-merged : goal.returns-then-self-2-clause-merged
returns-then-self-2-clause-merged c = merged_snapshot c.args.self.now.node c.merge-merged.new.self c.args.delta.now c.merge-merged.result c.merge-merged.ensures.merges (sym c.if-is_err.ensures.value)

pub returns-then-self-2-clause-covering : goal.returns-then-self-2-clause-covering
returns-then-self-2-clause-covering c = λ asked bytes brings seen covering.
    let d = c.requires in
    let m = merged_snapshot c.args.self.now.node c.merge-merged.new.self c.args.delta.now c.merge-merged.result c.merge-merged.ensures.merges (sym c.if-is_err.ensures.value) d.0 d.1 in
    record {
      written = covering_taken asked c.args.self.now.node c.merge-merged.new.self c.args.self.now.durable c.args.self.now.written c.change-change.result bytes d.0 c.if-self-2.true c.change-change.ensures seen (brings d.0 d.1) m covering.written;
      up_to = λ t. c.change-change.ensures;
    }

pub returns-else-self-2-clause-merged : goal.returns-else-self-2-clause-merged
returns-else-self-2-clause-merged c = merged_snapshot c.args.self.now.node c.merge-merged.new.self c.args.delta.now c.merge-merged.result c.merge-merged.ensures.merges (sym c.if-is_err.ensures.value)

pub returns-else-self-2-clause-covering : goal.returns-else-self-2-clause-covering
returns-else-self-2-clause-covering c = λ asked bytes brings seen covering.
    let goes = goes_merges c.args.self.now.node c.merge-merged.new.self c.args.delta.now c.merge-merged.result c.merge-merged.ensures.merges in
    let e = c.change-change.ensures in
    let r = c.change-change.type_inv in
    record { written = covering_kept asked c.args.self.now.node c.merge-merged.new.self c.args.self.now.durable c.args.self.now.written c.if-self-2.false goes (omega (arith, e, r)) covering.written; up_to = λ t. absurd (let f = c.if-self-2.false in cc) }

pub returns-then-ne-clause-same : goal.returns-then-ne-clause-same
returns-then-ne-clause-same c = same_none c.args.self.now

pub returns-then-is_err-clause-same : goal.returns-then-is_err-clause-same
returns-then-is_err-clause-same c =
    same_merged c.args.self.now _ c.args.delta.now c.merge-merged.result c.merge-merged.ensures.merges refl refl refl refl refl (λ h. (h, refl))

pub returns-then-self-2-clause-same : goal.returns-then-self-2-clause-same
returns-then-self-2-clause-same c =
    same_merged c.args.self.now _ c.args.delta.now c.merge-merged.result c.merge-merged.ensures.merges refl refl refl refl refl (λ h. (refl, search rules))

pub returns-else-self-2-clause-same : goal.returns-else-self-2-clause-same
returns-else-self-2-clause-same c =
    same_merged c.args.self.now _ c.args.delta.now c.merge-merged.result c.merge-merged.ensures.merges refl refl refl refl refl (λ h. (refl, search rules))
