use Rattle.std.specs.Prelude.{◌≤◌, vec_len}
use Rattle.lw_held.specs.Agree.{AreDistinct}
use Rattle.lw_serve_tests.proofs.crew.played.Given as goal

abbrev pub invariant-loop-list : goal.invariant-loop-list
invariant-loop-list g l = (1 ≤ vec_len l.passes) × (vec_len l.passes ≤ 8) × AreDistinct l.passes.items
