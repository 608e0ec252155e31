use Rattle.lw_crew.specs.inner.Claims.{AreTrueBelow}
use Rattle.lw_crew.proofs.checking.first_untrue.Given as goal

abbrev pub invariant-loop-place : goal.invariant-loop-place
invariant-loop-place l = AreTrueBelow l.shelves l.initial.next l.next l.after l.jobs l.dones l.place
