use Rattle.registry.proofs.RunLemmas.{told_next, told_all}
use Rattle.registry.proofs.running.take_lines.Goals as goal

pub loop-place-preserved : goal.loop-place-preserved
loop-place-preserved g c = told_next c.args.lines.now c.loop-place.place _ _ _ _ _ _ _ c.loop-place-test.true c.loop-place.invariant c.in_ok-take_line.ensures

pub returns : goal.returns
returns g c = told_all c.args.lines.now c.loop-place.place _ _ _ _ c.loop-place-test.false c.loop-place.invariant
