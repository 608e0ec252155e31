use Rattle.std.proofs.Common.{◌++◌, ◌∷◌, [], List, arith, refl, sym, ap, ◌∙◌, subst, append_assoc}
use Rattle.std.proofs.lemmas.Option.{slice_get_read}
use Rattle.lw_call.specs.declared.call.Call.{Call}
use Rattle.lw_call.specs.declared.reply.Reply.{Reply}
use Rattle.lw_node.specs.Node.{NodeContent}
use Rattle.lw_replica.specs.declared.state.ReplicaState.{ReplicaState}
use Rattle.lw_replica.specs.Rounds.{Makes}
use Rattle.lw_replica.specs.inner.Going.{Goes}
use Rattle.lw_replica.proofs.Making.{makes_more, makes_goes}
use Rattle.lw_replica.proofs.Merging.{settled_covering}
use Rattle.lw_replica.proofs.Taking.{items_take}
use Rattle.lw_replica.proofs.state.ReplicaState.make.Goals as goal

pub loop-call-preserved : goal.loop-call-preserved
loop-call-preserved c =
    let item = slice_get_read _ _ _ _ refl c.loop-call-test.true c.call-item.is in
    let made = c.loop-call.invariant.made in
    let reply = c.act.result in
    let only = c.loop-call.invariant.only in
    record {
      room = omega (arith, c.push_reserved.ensures.len, c.push_reserved.ensures.capacity, c.loop-call.invariant.room, c.loop-call-test.true);
      made = (
        made.0 ++ reply ∷ [],
        c.push_reserved.ensures.items ∙ ap (λ (xs : List Reply). xs ++ reply ∷ []) made.1 ∙ append_assoc _ made.0 (reply ∷ []),
        subst (λ (calls : List Call). Makes c.args.self.now.node calls (made.0 ++ reply ∷ []) c.act.new.self) (sym (items_take c.args.calls.now c.loop-call.call-index c.call-item.result item))
            (makes_more c.args.self.now.node c.loop-call.self.node c.act.new.self _ made.0 c.call-item.result reply made.2 (λ known is. c.act.ensures known is)),
      );
      only = ap (λ (s : ReplicaState). record s { node = c.act.new.self }) only;
    }

pub returns-clause-goes : goal.returns-clause-goes
returns-clause-goes c =
    let made = c.loop-call.invariant.made in
    subst (λ (n : NodeContent). Goes c.args.self.now.node n) (sym (ap (λ (s : ReplicaState). s.node) c.settle_durable.ensures.only)) (makes_goes c.args.self.now.node c.loop-call.self.node _ made.0 made.2)

pub returns-clause-covering : goal.returns-clause-covering
returns-clause-covering c = λ asked covering.
    let made = c.loop-call.invariant.made in
    let only = c.loop-call.invariant.only in
    let goes = subst (λ (n : NodeContent). Goes c.args.self.now.node n) (sym (ap (λ (s : ReplicaState). s.node) c.settle_durable.ensures.only)) (makes_goes c.args.self.now.node c.loop-call.self.node _ made.0 made.2) in
    settled_covering asked c.args.self.now c.settle_durable.new.self goes c.settle_durable.ensures.last
    (λ h. let x = c.settle_durable.ensures.durable.0 h in (sym (ap (λ (s : ReplicaState). s.durable) only) ∙ x.0, x.1 ∙ c.change.ensures, x.2, x.3 ∙ c.clock.ensures.value))
    (ap (λ (s : ReplicaState). s.written) c.settle_durable.ensures.only ∙ ap (λ (s : ReplicaState). s.written) only)
    covering
