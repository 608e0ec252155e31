-- What is handled so far, and what is left; and there is room for that.
use Rattle.std.proofs.Common.{◌≡◌, ◌+◌, ◌≤◌, length, vec_len, vec_capacity}
use Rattle.std.specs.Vec.Iter.{into_iter_items}
use Rattle.lw_server.specs.Blocks.{made_of}
use Rattle.lw_server.proofs.Handling.{IsHandling}
use Rattle.lw_server.proofs.blocks.put_handled.Given as goal

abbrev pub invariant-loop-origin : goal.invariant-loop-origin
invariant-loop-origin l = record {
  handled : IsHandling (made_of l.fn.origins.items (into_iter_items l.initial.replies)) l.initial.handled.items l.handled.items
      (made_of (into_iter_items l.origin-iterator) (into_iter_items l.replies));
  room : vec_len l.handled + length (into_iter_items l.origin-iterator) ≤ vec_capacity l.handled;
  capacity : vec_capacity l.handled ≡ vec_capacity l.initial.handled;
}
