use Rattle.std.proofs.Common.{refl}
use Rattle.registry.proofs.FleetLemmas.{lines_more}
use Rattle.registry.proofs.fleet.fleet_text.Goals as goal

pub loop-seen-preserved : goal.loop-seen-preserved
loop-seen-preserved c = lines_more _ c.seen-item.result c.loop-seen.seen-index _ _ _ _ refl c.loop-seen-test.true c.seen-item.is c.loop-seen.invariant c.in_ok-put_line.ensures
