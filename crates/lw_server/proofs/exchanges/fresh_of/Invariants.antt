-- What is taken, and what is sent again, of the datagrams so far, and behind it that of those that are left, is all.
use Rattle.std.proofs.Common.{◌≡◌, ◌++◌, map}
use Rattle.std.specs.Vec.Iter.{into_iter_items}
use Rattle.lw_server.specs.Exchanges.{fresh_behind, fresh_of, sent_again}
use Rattle.lw_server.specs.Turns.{sent}
use Rattle.lw_server.proofs.exchanges.fresh_of.Given as goal

abbrev pub invariant-loop-datagram : goal.invariant-loop-datagram
invariant-loop-datagram l = record {
  fresh : fresh_behind l.now l.replies l.fresh.items (into_iter_items l.datagram-iterator) ≡ fresh_of l.now l.replies l.fn.batch.items;
  sent : map sent l.sends.items ++ sent_again l.now l.replies (into_iter_items l.datagram-iterator) ≡ map sent l.initial.sends.items ++ sent_again l.now l.replies l.fn.batch.items;
}
