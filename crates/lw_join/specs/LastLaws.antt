-- The laws of `Last`.
use Rattle.std.specs.declared.cmp.Ordering.{Ordering}
use Rattle.std.proofs.Common.{refl}
use Rattle.lw_stamp.specs.declared.stamp.Stamp.{Stamp}
use Rattle.lw_stamp.specs.Order.{IsExactOrder}
use Rattle.lw_join.specs.Join.{IsJoin}
use Rattle.lw_join.specs.JoinLaws.{laws_along}
use Rattle.lw_join.specs.GreaterLaws.{greater_laws}
use Rattle.lw_join.specs.LwwLaws.{write_order}
use Rattle.lw_join.specs.Last.{last_below, last_join}
use Rattle.lw_join.specs.declared.last.Last.{Last}

abbrev last_of : {V : Type 0} → Stamp × V → Last V
last_of w = record { write = w }

pub last_laws : {V : Type 0} {cmp : V → V → Ordering} → IsExactOrder cmp → IsJoin (last_below cmp) (last_join cmp)
last_laws order = laws_along (λ x. x.write) last_of (λ s. refl) (λ t. refl) (greater_laws (write_order order))
