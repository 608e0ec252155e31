-- What is sorted so far, and what is left.
use Rattle.std.specs.Vec.Iter.{into_iter_items}
use Rattle.lw_server.proofs.Sorting.{IsGoingOn}
use Rattle.lw_server.proofs.blocks.sort.Given as goal

abbrev pub invariant-loop-datagram : goal.invariant-loop-datagram
invariant-loop-datagram l =
    IsGoingOn l.now l.steady l.initial.bodies l.fn.fresh.items l.bodies l.sorted (into_iter_items l.datagram-iterator)
