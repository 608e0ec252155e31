use Rattle.lw_held.specs.inner.Looks.{HasBelow}
use Rattle.lw_held.proofs.agreeing.is_told.Given as goal

abbrev pub invariant-loop-pass : goal.invariant-loop-pass
invariant-loop-pass l = ¬ HasBelow l.node l.place l.entry l.passes l.pass-index
