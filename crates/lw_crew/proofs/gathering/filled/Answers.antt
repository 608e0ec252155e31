use Rattle.std.proofs.Common.{arith}
use Rattle.std.proofs.lemmas.Option.{slice_get-get_or}
use Rattle.lw_crew.proofs.Slots.{filled_more, filled_all, none_there}
use Rattle.lw_crew.proofs.gathering.filled.Goals as goal

pub loop-done-preserved : goal.loop-done-preserved
loop-done-preserved c =
    filled_more _ _ _ c.loop-done.slots.items _ c.loop-done.invariant
    (slice_get-get_or _ _ _ c.loop-done-test.true)
    c.if-done-count.false
    (none_there c.loop-done.slots.items _ c.index.result.now c.index.ensures (omega arith) c.if-is_some.ensures)

pub returns-clause-ok : goal.returns-clause-ok
returns-clause-ok c = filled_all _ _ _ _ c.loop-done-test.false c.loop-done.auto.done-index-end c.loop-done.invariant
