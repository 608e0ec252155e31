use Rattle.std.proofs.Common.{[], sym, ap, ◌∙◌, refl, subst}
use Rattle.std.specs.Prelude.{Ok}
use Rattle.lw_delta.specs.Delta.{IsSpelling}
use Rattle.lw_node.specs.Exchange.{Merged}
use Rattle.lw_node.specs.Node.{NodeContent}
use Rattle.lw_replica.specs.declared.state.ReplicaState.{ReplicaState}
use Rattle.lw_replica.specs.inner.Going.{Goes}
use Rattle.lw_replica.proofs.Going.{goes_merges, goes_refl}
use Rattle.lw_replica.proofs.Merging.{merged_snapshot, settled_covering}
use Rattle.lw_replica.proofs.state.ReplicaState.raise.Goals as goal

pub returns-in_err-new-clause-goes : goal.returns-in_err-new-clause-goes
returns-in_err-new-clause-goes c = goes_refl c.args.self.now.node

pub returns-in_err-delta-clause-goes : goal.returns-in_err-delta-clause-goes
returns-in_err-delta-clause-goes c = goes_refl c.args.self.now.node

pub returns-in-Ok-clause-raised : goal.returns-in-Ok-clause-raised
returns-in-Ok-clause-raised c =
    let writer = c.in_ok-new.field-0 in
    let spelled = subst (λ b. IsSpelling b (record { clock = writer.clock; slots = [] })) (sym c.deref.ensures.value) (c.in_ok-delta.ensures.spelled [] c.in_ok-new.ensures.begun) in
    let m = merged_snapshot c.args.self.now.node c.merge-merged.new.self c.deref.result.now (Ok c.in-Ok.field-0) c.in-Ok.ensures.merges refl (record { clock = writer.clock; slots = [] }) spelled in
    subst (λ (n : NodeContent). Merged c.args.self.now.node c.args.self.now.floor [] n) (sym (ap (λ (s : ReplicaState). s.node) c.settle_durable.ensures.only)) (subst (λ k. Merged c.args.self.now.node k [] c.merge-merged.new.self) c.in_ok-new.ensures.clock m)

pub returns-in-Ok-clause-goes : goal.returns-in-Ok-clause-goes
returns-in-Ok-clause-goes c =
    subst (λ (n : NodeContent). Goes c.args.self.now.node n) (sym (ap (λ (s : ReplicaState). s.node) c.settle_durable.ensures.only))
    (goes_merges c.args.self.now.node c.merge-merged.new.self c.deref.result.now c.merge-merged.result c.merge-merged.ensures.merges)

pub returns-clause-goes : goal.returns-clause-goes
returns-clause-goes c =
    subst (λ (n : NodeContent). Goes c.args.self.now.node n) (sym (ap (λ (s : ReplicaState). s.node) c.settle_durable.ensures.only))
    (goes_merges c.args.self.now.node c.merge-merged.new.self c.deref.result.now c.merge-merged.result c.merge-merged.ensures.merges)

pub returns-in-Ok-clause-covering : goal.returns-in-Ok-clause-covering
returns-in-Ok-clause-covering c = λ asked covering.
    let goes = subst (λ (n : NodeContent). Goes c.args.self.now.node n) (sym (ap (λ (s : ReplicaState). s.node) c.settle_durable.ensures.only))
    (goes_merges c.args.self.now.node c.merge-merged.new.self c.deref.result.now c.merge-merged.result c.merge-merged.ensures.merges) in
    settled_covering asked c.args.self.now c.settle_durable.new.self goes c.settle_durable.ensures.last
    (λ h. let x = c.settle_durable.ensures.durable.0 h in (
      x.0,
      x.1 ∙ c.change.ensures,
      x.2,
      x.3
          ∙ c.clock.ensures.value,
    ))
    (ap (λ (s : ReplicaState). s.written) c.settle_durable.ensures.only) covering

pub returns-clause-covering : goal.returns-clause-covering
returns-clause-covering c = λ asked covering.
    let goes = subst (λ (n : NodeContent). Goes c.args.self.now.node n) (sym (ap (λ (s : ReplicaState). s.node) c.settle_durable.ensures.only))
    (goes_merges c.args.self.now.node c.merge-merged.new.self c.deref.result.now c.merge-merged.result c.merge-merged.ensures.merges) in
    settled_covering asked c.args.self.now c.settle_durable.new.self goes c.settle_durable.ensures.last
    (λ h. let x = c.settle_durable.ensures.durable.0 h in (
      x.0,
      x.1 ∙ c.change.ensures,
      x.2,
      x.3
          ∙ c.clock.ensures.value,
    ))
    (ap (λ (s : ReplicaState). s.written) c.settle_durable.ensures.only) covering
