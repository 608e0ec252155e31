use Rattle.lw_script.proofs.kinds.id.Goals as goal

pub returns-clause-found : goal.returns-clause-found
returns-clause-found c =
    record { values = (c.in_ok-node.node, (c.in_ok-node.now, c.in_ok-node.id)); said = c.in_ok-node.ensures.found; event_is = c.asked.ensures }
