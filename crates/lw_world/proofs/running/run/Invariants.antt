use Rattle.std.proofs.Common.{take}
use Rattle.lw_world.specs.Run.{History, Runs, begun}
use Rattle.lw_world.specs.inner.Sound.{Keeps}
use Rattle.lw_world.proofs.running.run.Given as goal

-- a history of the events so far, of which the world tells
abbrev pub invariant-loop-event : goal.invariant-loop-event
invariant-loop-event l = record {
  history : History;
  runs : Runs (begun l.nodes) (take l.event-index l.events) l.outcomes.items history;
  keeps : Keeps history l.world;
}
