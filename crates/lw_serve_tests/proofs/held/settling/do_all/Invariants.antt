use Rattle.lw_held.specs.Agree.{AreDistinct}
use Rattle.lw_serve_tests.proofs.held.settling.do_all.Given as goal

abbrev pub invariant-loop-does : goal.invariant-loop-does
invariant-loop-does g l = AreDistinct l.passes
