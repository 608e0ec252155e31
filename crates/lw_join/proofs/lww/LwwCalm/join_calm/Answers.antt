use Rattle.std.proofs.Common.{sym, rules}
use Rattle.lw_stamp.specs.Order.{IsExactOrder}
use Rattle.lw_join.specs.JoinLaws.{absorbed}
use Rattle.lw_join.specs.LwwLaws.{lww_laws}
use Rattle.lw_join.proofs.lww.LwwCalm.join_calm.Goals as goal

pub returns-else-not-le : goal.returns-else-not-le
returns-else-not-le g c =
    let order : IsExactOrder g.V.Ord.cmp = record { total = g.met.V.Ord.total; exact = g.met.V.Exact.exact } in
    sym (absorbed (lww_laws order) c.args.self.now c.args.other (c.le.ensures.0 (cc)))

pub returns-then-not-le : goal.returns-then-not-le
returns-then-not-le c = search rules
