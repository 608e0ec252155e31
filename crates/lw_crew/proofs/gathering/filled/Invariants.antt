use Rattle.lw_crew.specs.inner.Filling.{AreFilled}
use Rattle.lw_crew.proofs.gathering.filled.Given as goal

abbrev pub invariant-loop-done : goal.invariant-loop-done
invariant-loop-done l = AreFilled l.count l.dones l.done-index l.slots.items
