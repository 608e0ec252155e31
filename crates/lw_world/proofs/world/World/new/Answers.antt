use Rattle.std.proofs.Common.{[], ◌∷◌, ◌++◌, ◌+◌, ◌-◌, map, ap, ◌∙◌}
use Rattle.lw_world.specs.Known.{node_of}
use Rattle.lw_world.specs.Run.{numbered_from}
use Rattle.lw_world.proofs.Making.{one_node_more}
use Rattle.lw_world.proofs.world.World.new.Goals as goal

pub loop-place-preserved : goal.loop-place-preserved
loop-place-preserved c =
    ap (λ nodes. nodes ++ map node_of (numbered_from (c.loop-place.place + 1 + 1) (c.args.count - (c.loop-place.place + 1)))) (c.in_ok-push.ensures.items ∙ ap (λ node. c.loop-place.nodes.items ++ node ∷ []) c.new.ensures)
    ∙ one_node_more _ c.loop-place.nodes.items c.loop-place.place c.args.count c.loop-place-test.true c.loop-place.invariant
