-- What is to be sent so far, and behind it the replies that are left, are all; and there is room for these.
use Rattle.std.proofs.Common.{◌≡◌, ◌++◌, ◌+◌, ◌≤◌, map, length, vec_len, vec_capacity}
use Rattle.std.specs.Vec.Iter.{into_iter_items}
use Rattle.lw_server.specs.Turns.{sends_of, sent}
use Rattle.lw_server.proofs.sending.put_sends.Given as goal

abbrev pub invariant-loop-datagram : goal.invariant-loop-datagram
invariant-loop-datagram l =
    (map sent l.sends.items ++ sends_of (into_iter_items l.datagram-iterator) ≡ map sent l.initial.sends.items ++ sends_of l.fn.handled.items) ×
    (vec_len l.sends + length (into_iter_items l.datagram-iterator) ≤ vec_capacity l.sends)
