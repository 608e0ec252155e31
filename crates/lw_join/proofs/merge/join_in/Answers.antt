use Rattle.std.proofs.Common.{arith}
use Rattle.lw_stamp.specs.Order.{IsExactOrder}
use Rattle.lw_join.proofs.Edits.{length-join}
use Rattle.lw_join.proofs.merge.join_in.Goals as goal

pub merge-requires-clause-room : goal.merge-requires-clause-room
merge-requires-clause-room g c =
    let order : IsExactOrder g.K.Ord.cmp = record { total = g.met.K.Ord.total; exact = g.met.K.Exact.exact } in
    let room = rw c.in-Some.is at c.requires.room in
    omega (arith, room.1, c.args.into.now.ok.0, length-join order g.J.Join.join c.args.into.now.items c.args.from.items c.requires.left c.requires.right)
