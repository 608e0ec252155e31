use Rattle.std.proofs.Common.{ℕ, ◌<◌}
use Rattle.lw_crew.specs.inner.Claims.{IsAt}
use Rattle.lw_crew.proofs.checking.place_of.Given as goal

abbrev pub invariant-loop-place : goal.invariant-loop-place
invariant-loop-place l = (k : ℕ) → k < l.place → ¬ IsAt l.passes l.number k
