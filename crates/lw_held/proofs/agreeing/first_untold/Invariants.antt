use Rattle.std.proofs.Common.{ℕ, ◌<◌, ◌+◌}
use Rattle.lw_held.specs.inner.Looks.{IsTold}
use Rattle.lw_held.proofs.agreeing.first_untold.Given as goal

abbrev pub invariant-loop-index : goal.invariant-loop-index
invariant-loop-index l = (q : ℕ) → q < l.first + l.index → IsTold l.node l.first l.entries l.passes q
