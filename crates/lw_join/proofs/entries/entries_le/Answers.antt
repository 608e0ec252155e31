use Rattle.std.proofs.Common.{refl, arith}
use Rattle.std.proofs.lemmas.Bool.{false≢true}
use Rattle.lw_stamp.specs.Order.{IsExactOrder}
use Rattle.lw_join.proofs.Lookups.{below_from_each, each_from_below}
use Rattle.lw_join.proofs.entries.entries_le.Goals as goal

pub returns : goal.returns
returns g c =
    let order : IsExactOrder g.K.Ord.cmp = record { total = g.met.K.Ord.total; exact = g.met.K.Exact.exact } in
    (λ _. below_from_each order g.J.Join.below c.args.left.now c.args.right.now (λ k d lt. c.loop-e.invariant k d (omega arith)), λ _. refl)

pub returns-then-not-covers : goal.returns-then-not-covers
returns-then-not-covers g c =
    let order : IsExactOrder g.K.Ord.cmp = record { total = g.met.K.Ord.total; exact = g.met.K.Exact.exact } in (
      λ h. absurd (false≢true h),
      λ all.
          let here = each_from_below order g.J.Join.below c.args.left.now c.args.right.now c.loop-e.e-index c.e-item.result c.requires.left c.loop-e-test.true c.e-item.is all in
          c.if-not-covers.ensures.1 here,
    )
