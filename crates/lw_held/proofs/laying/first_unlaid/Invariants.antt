use Rattle.lw_held.specs.Agree.{IsFirstBreak}
use Rattle.lw_held.specs.inner.Looks.{TurnIsLaid}
use Rattle.lw_held.proofs.laying.first_unlaid.Given as goal

-- the least of the turns so far that is not laid
abbrev pub invariant-loop-volume : goal.invariant-loop-volume
invariant-loop-volume l = IsFirstBreak (TurnIsLaid l.node l.volumes l.held l.volume-index) l.least
