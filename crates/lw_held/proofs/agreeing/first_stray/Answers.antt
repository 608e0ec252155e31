use Rattle.std.proofs.Common.{refl}
use Rattle.std.proofs.lemmas.Option.{slice_get_read}
use Rattle.lw_held.proofs.Agreement.{knows_more, knows_all}
use Rattle.lw_held.proofs.agreeing.first_stray.Goals as goal

pub loop-part-preserved : goal.loop-part-preserved
loop-part-preserved c = knows_more _ _ _ _ _ c.part-item.result (slice_get_read _ _ _ _ refl c.loop-part-test.true c.part-item.is) _ _ c.loop-part.invariant c.looked_at-look.ensures

pub returns : goal.returns
returns c = knows_all _ _ _ _ _ _ c.loop-part-test.false c.loop-part.auto.part-index-end c.loop-part.invariant
