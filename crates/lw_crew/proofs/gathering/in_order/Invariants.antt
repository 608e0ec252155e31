use Rattle.lw_crew.specs.inner.Filling.{AreTaken}
use Rattle.lw_crew.proofs.gathering.in_order.Given as goal

abbrev pub invariant-loop-job : goal.invariant-loop-job
invariant-loop-job l = AreTaken l.slots l.job l.all.items
