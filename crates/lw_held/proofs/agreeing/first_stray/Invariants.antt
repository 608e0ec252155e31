use Rattle.lw_held.specs.inner.Looks.{Knows}
use Rattle.lw_held.proofs.agreeing.first_stray.Given as goal

abbrev pub invariant-loop-part : goal.invariant-loop-part
invariant-loop-part l = Knows l.node l.volumes l.held l.parts l.part-index l.look
