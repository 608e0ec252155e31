use Rattle.std.proofs.Common.{sym}
use Rattle.lw_stamp.specs.Order.{IsExactOrder}
use Rattle.lw_join.specs.JoinLaws.{absorbed}
use Rattle.lw_join.specs.LastLaws.{last_laws}
use Rattle.lw_join.proofs.last.LastCalm.join_calm.Goals as goal

pub returns-else-not-le : goal.returns-else-not-le
returns-else-not-le g c =
    let order : IsExactOrder g.V.Ord.cmp = record { total = g.met.V.Ord.total; exact = g.met.V.Exact.exact } in
    sym (absorbed (last_laws order) c.args.self.now c.args.other (c.le.ensures.0 (cc)))
