use Rattle.lw_held.specs.Agree.{AreDistinct}
use Rattle.lw_serve_tests.proofs.held.agreeing.do_all.Given as goal

abbrev pub invariant-loop-row : goal.invariant-loop-row
invariant-loop-row g l = AreDistinct l.passes
