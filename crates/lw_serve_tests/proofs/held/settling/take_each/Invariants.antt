use Rattle.lw_held.specs.Agree.{AreDistinct}
use Rattle.lw_serve_tests.proofs.held.settling.take_each.Given as goal

abbrev pub invariant-loop-turn : goal.invariant-loop-turn
invariant-loop-turn g l = AreDistinct l.passes
