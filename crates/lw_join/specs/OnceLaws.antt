-- The laws of `Once`.
use Rattle.std.specs.Prelude.{Option}
use Rattle.std.specs.declared.cmp.Ordering.{Ordering}
use Rattle.std.proofs.Common.{refl}
use Rattle.lw_stamp.specs.Order.{IsExactOrder}
use Rattle.lw_join.specs.Join.{IsJoin}
use Rattle.lw_join.specs.JoinLaws.{laws_along}
use Rattle.lw_join.specs.GreaterLaws.{greater_laws}
use Rattle.lw_join.specs.OptionLaws.{option_laws}
use Rattle.lw_join.specs.Once.{once_below, once_join}
use Rattle.lw_join.specs.declared.once.Once.{Once}

abbrev once_of : {V : Type 0} → Option V → Once V
once_of o = record { value = o }

pub once_laws : {V : Type 0} {cmp : V → V → Ordering} → IsExactOrder cmp → IsJoin (once_below cmp) (once_join cmp)
once_laws order = laws_along (λ x. x.value) once_of (λ s. refl) (λ t. refl) (option_laws (greater_laws order))
