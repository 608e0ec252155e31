use Rattle.lw_stamp.proofs.StampLemmas.{joined, only_stamp}
use Rattle.lw_stamp.proofs.stamp.Stamp.from_bytes.Goals as goal

pub returns-clause-some : goal.returns-clause-some
returns-clause-some c =
    only_stamp c.args.bytes c.counter_of-counter.result c.node_of-node.result _
    (joined c.args.bytes _ _ c.counter_of-counter.ensures.same c.node_of-node.ensures.same)
