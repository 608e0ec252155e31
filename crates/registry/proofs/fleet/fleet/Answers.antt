use Rattle.registry.proofs.FleetLemmas.{met_more, met_all}
use Rattle.registry.proofs.fleet.fleet.Goals as goal

pub loop-preserved : goal.loop-preserved
loop-preserved c = met_more _ _ _ _ _ _ _ c.deref.ensures.value c.loop.invariant c.in_ok-next.ensures c.in-Some.is c.in_ok-push-in-Some.ensures.items

pub returns-in-None : goal.returns-in-None
returns-in-None c = met_all _ _ _ _ _ c.deref.ensures.value c.loop.invariant c.in_ok-next.ensures c.in-None.is
