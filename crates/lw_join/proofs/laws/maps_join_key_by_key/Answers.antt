use Rattle.lw_stamp.specs.Order.{IsExactOrder}
use Rattle.lw_join.specs.PartsLaws.{value_at-join}
use Rattle.lw_join.proofs.laws.maps_join_key_by_key.Goals as goal

pub returns : goal.returns
returns g c =
    let order : IsExactOrder g.K.Ord.cmp = record { total = g.met.K.Ord.total; exact = g.met.K.Exact.exact } in
    value_at-join order g.J.Join.join
