use Rattle.std.proofs.Common.{◌≡◌, ◌+◌, ◌-◌, ◌++◌, map}
use Rattle.lw_world.specs.Known.{node_of}
use Rattle.lw_world.specs.Run.{numbered_from}
use Rattle.lw_world.proofs.world.World.new.Given as goal

-- the nodes that are still to come are those that lack
abbrev pub invariant-loop-place : goal.invariant-loop-place
invariant-loop-place l = l.nodes.items ++ map node_of (numbered_from (l.place + 1) (l.count - l.place)) ≡ map node_of (numbered_from 1 l.count)
