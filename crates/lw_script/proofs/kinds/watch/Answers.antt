use Rattle.std.proofs.Common.{inl, inr}
use Rattle.lw_script.proofs.kinds.watch.Goals as goal

pub returns-in-Some-clause-found : goal.returns-in-Some-clause-found
returns-in-Some-clause-found c =
    inl (record { values = (c.in-Some.node, (c.in-Some.now, c.in-Some.id)); said = c.in-Some.ensures.found; event_is = c.asked.ensures })

pub returns-clause-found : goal.returns-clause-found
returns-clause-found c = inr (record {
  values = (c.in_ok-node.node, (c.in_ok-node.now, (c.in_ok-node.id, c.in_ok-node.path)));
  said = c.in_ok-node.ensures.found;
  event_is = c.asked-2.ensures;
})
