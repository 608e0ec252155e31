use Rattle.std.proofs.Common.{◌≤◌}
use Rattle.bench.proofs.events.Story.take_turns.Given as goal

abbrev pub invariant-loop-turn : goal.invariant-loop-turn
invariant-loop-turn l = l.first ≤ l.count
