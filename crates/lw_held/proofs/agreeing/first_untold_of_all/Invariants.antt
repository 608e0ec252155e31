use Rattle.lw_held.specs.Agree.{IsFirstBreak}
use Rattle.lw_held.specs.inner.Looks.{AllToldBelow}
use Rattle.lw_held.proofs.agreeing.first_untold_of_all.Given as goal

abbrev pub invariant-loop-volume : goal.invariant-loop-volume
invariant-loop-volume l = IsFirstBreak (AllToldBelow l.node l.volumes l.held l.passes l.volume-index) l.least
