use Rattle.std.proofs.Common.{sym, subst, refl, take, ◌+◌, List, []}
use Rattle.lw_world.specs.declared.outcome.Outcome.{Outcome}
use Rattle.lw_world.specs.Run.{Runs, begun}
use Rattle.lw_world.proofs.Making.{ran_on, ran_whole, begun_keeps}
use Rattle.lw_world.proofs.running.run.Goals as goal

pub loop-event-init : goal.loop-event-init
loop-event-init c = record {
  history = begun c.args.nodes;
  runs = subst (λ (os : List Outcome). Runs (begun c.args.nodes) [] os (begun c.args.nodes)) (sym c.new-outcomes.ensures.items) refl;
  keeps = begun_keeps c.args.nodes c.in_ok-world.world c.in_ok-world.ensures;
}

pub loop-event-preserved : goal.loop-event-preserved
loop-event-preserved c =
    let so_far = c.loop-event.invariant in
    let step = c.in_ok-step.ensures so_far.history so_far.keeps in
    record {
      history = step.0;
      runs = subst (λ (os : List Outcome). Runs (begun c.args.nodes) (take (c.loop-event.event-index + 1) c.args.events.now) os step.0) (sym c.in_ok-push.ensures.items)
          (ran_on (begun c.args.nodes) so_far.history step.0 c.args.events.now c.loop-event.event-index c.loop-event.outcomes.items c.event-item.result c.in_ok-step.field-0 c.loop-event-test.true c.event-item.is so_far.runs step.1);
      keeps = step.2;
    }

pub returns : goal.returns
returns c =
    let so_far = c.loop-event.invariant in
    (so_far.history, ran_whole (begun c.args.nodes) so_far.history c.args.events.now c.loop-event.event-index c.loop-event.outcomes.items c.loop-event-test.false so_far.runs, so_far.keeps.world_is)
