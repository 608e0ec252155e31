-- The laws of `Lww`.
use Rattle.std.specs.Prelude.{Option}
use Rattle.std.specs.declared.cmp.Ordering.{Ordering}
use Rattle.std.proofs.Common.{refl}
use Rattle.std.proofs.lemmas.Cmp.{on_total, then_total}
use Rattle.std.proofs.lemmas.Map.Lookups.{exact_pairs}
use Rattle.lw_stamp.specs.declared.stamp.Stamp.{Stamp}
use Rattle.lw_stamp.specs.Order.{IsExactOrder}
use Rattle.lw_stamp.specs.StampOrder.{stamp_cmp}
use Rattle.lw_stamp.proofs.StampLemmas.{stamp_order}
use Rattle.lw_join.specs.Join.{IsJoin}
use Rattle.lw_join.specs.JoinLaws.{laws_along}
use Rattle.lw_join.specs.GreaterLaws.{greater_laws}
use Rattle.lw_join.specs.OptionLaws.{option_laws}
use Rattle.lw_join.specs.Lww.{write_cmp, lww_below, lww_join}
use Rattle.lw_join.specs.declared.lww.Lww.{Lww}

pub write_order : {V : Type 0} {cmp : V → V → Ordering} → IsExactOrder cmp → IsExactOrder (write_cmp cmp)
write_order {V} {cmp} order = record {
  total = then_total (on_total (λ (w : Stamp × V). w.0) stamp_order.total) (on_total (λ (w : Stamp × V). w.1) order.total);
  exact = exact_pairs stamp_cmp cmp stamp_order.exact order.exact;
}

abbrev lww_of : {V : Type 0} → Option (Stamp × V) → Lww V
lww_of o = record { write = o }

pub lww_laws : {V : Type 0} {cmp : V → V → Ordering} → IsExactOrder cmp → IsJoin (lww_below cmp) (lww_join cmp)
lww_laws order = laws_along (λ x. x.write) lww_of (λ s. refl) (λ t. refl) (option_laws (greater_laws (write_order order)))
