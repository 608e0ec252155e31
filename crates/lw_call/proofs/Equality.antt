-- That what tests of equality tell.
use Rattle.std.proofs.Common.{◌≡◌, ◌↔◌, IsTrue, true, refl, ap, subst}
use Rattle.std.specs.declared.cmp.Ordering.{Ordering}
use Rattle.std.specs.declared.cmp.Ordering.TheVariants.{Equal}
use Rattle.std.specs.Cmp.{Equal-is, tied_itself}
use Rattle.std.specs.Ordering.{eq_by_cmp, nat_cmp}
use Rattle.std.proofs.lemmas.Bool.{eqb-true, eq-eqb}
use Rattle.std.proofs.lemmas.Cmp.{eq_by_cmp_equiv}
use Rattle.std.proofs.lemmas.Slice.Eq.{bytes_eq-Decides}
use Rattle.lw_stamp.specs.Order.{IsExactOrder}
use Rattle.lw_stamp.specs.declared.moment.Moment.{Moment}
use Rattle.lw_stamp.specs.Moment.{ms_of}
use Rattle.lw_stamp.specs.contracts.moment.MomentPartialEq.TheImpl as moments
use Rattle.lw_reg.specs.declared.binding.Binding.{Binding}
use Rattle.lw_reg.specs.declared.path.Path.{Path}
use Rattle.lw_reg.specs.contracts.binding.BindingPartialEq.TheImpl as bindings
use Rattle.lw_reg.specs.contracts.path.PathPartialEq.TheImpl as paths
use Rattle.lw_reg.specs.BindingLaws.{same_binding}
use Rattle.lw_reg.specs.BindingText.{text_in}
use Rattle.lw_reg.specs.OrderLaws.{moment_order, number_order, path_order}

-- what an order does not tell apart is the same
exact_same : {V : Type 0} {cmp : V → V → Ordering} → IsExactOrder cmp → (a b : V) → IsTrue (eq_by_cmp cmp a b) ↔ (a ≡ b)
exact_same {V} {cmp} order a b = (
  (λ h. order.exact a b ((Equal-is (cmp a b)).0 h)),
  (λ e. subst (λ x. eq_by_cmp cmp a x ≡ true) e ((eq_by_cmp_equiv order.total).refl a)),
)

pub same_paths : (a b : Path) → IsTrue ((paths.ghosts).eq a b) ↔ (a ≡ b)
same_paths a b = exact_same path_order a b

pub same_moments : (a b : Moment) → IsTrue ((moments.ghosts).eq a b) ↔ (a ≡ b)
same_moments a b = (
  (λ h. moment_order.exact a b (subst (λ n. nat_cmp (ms_of a) n ≡ Equal) (eqb-true (ms_of a) (ms_of b) h) (tied_itself number_order.total (ms_of a)))),
  (λ e. subst (λ x. (moments.ghosts).eq a x ≡ true) e (eq-eqb (ms_of a) (ms_of a) refl)),
)

pub same_bindings : (a b : Binding) → IsTrue ((bindings.ghosts).eq a b) ↔ (a ≡ b)
same_bindings a b = (
  (λ h. same_binding a b (ap text_in ((bytes_eq-Decides a.letters b.letters).0 h))),
  (λ e. subst (λ x. (bindings.ghosts).eq a x ≡ true) e ((bytes_eq-Decides a.letters a.letters).1 refl)),
)
