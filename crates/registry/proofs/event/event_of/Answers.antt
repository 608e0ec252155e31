use Rattle.lw_stamp.specs.Moment.{ms_of}
use Rattle.registry.proofs.EventLemmas.{event_some, event_none}
use Rattle.registry.proofs.RunLemmas.{if_ok}
use Rattle.registry.proofs.event.event_of.Goals as goal

pub returns-in-Some : goal.returns-in-Some
returns-in-Some c =
    if_ok c.event_at.result _ _ c.event_at.ensures
    (λ event is. event_some c.args.node.now (ms_of c.args.now) c.args.since c.args.code c.in_ok-moved.moved (c.in-Some.endpoint, c.in-Some.id) event c.in_ok-moved.ensures c.in-Some.is is)

pub returns-in-None : goal.returns-in-None
returns-in-None c = event_none c.args.node.now (ms_of c.args.now) c.args.since c.args.code c.in_ok-moved.moved c.in_ok-moved.ensures c.in-None.is
