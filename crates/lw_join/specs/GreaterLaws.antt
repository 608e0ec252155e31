-- The greater of two values of an exact order is their join.
use Rattle.std.specs.Prelude.{◌≡◌, false}
use Rattle.std.specs.declared.cmp.Ordering.{Ordering}
use Rattle.std.specs.declared.cmp.Ordering.TheVariants.{Less, Equal, Greater}
use Rattle.std.specs.Ordering.{is_gt, ordering_reverse, max_by_ordering}
use Rattle.std.specs.Cmp.{upto, tied_itself}
use Rattle.std.proofs.Common.{refl, sym, ap, ◌∙◌}
use mathlib.Core.Bool.{true≢false}
use Rattle.lw_stamp.specs.Order.{IsExactOrder, AtMost}
use Rattle.lw_join.specs.Join.{IsJoin}
use Rattle.lw_join.specs.Greater.{greater}

module _ {V : Type 0} {cmp : V → V → Ordering} (order : IsExactOrder cmp) where
  antisymm_by : (x y : V) (r s : Ordering) → cmp x y ≡ r → s ≡ ordering_reverse r → is_gt r ≡ false → is_gt s ≡ false → x ≡ y
  antisymm_by x y Less s e f h k = absurd (true≢false (ap is_gt (sym f) ∙ k))
  antisymm_by x y Equal s e f h k = order.exact x y e
  antisymm_by x y Greater s e f h k = absurd (true≢false h)

  pub at_most_refl : (x : V) → AtMost cmp x x
  at_most_refl x = ap is_gt (tied_itself order.total x)

  pub at_most_antisymm : (x y : V) → AtMost cmp x y → AtMost cmp y x → x ≡ y
  at_most_antisymm x y h k = antisymm_by x y (cmp x y) (cmp y x) refl (order.total.antisymm y x) h k

  pub at_most_trans : (x y z : V) → AtMost cmp x y → AtMost cmp y z → AtMost cmp x z
  at_most_trans x y z h k = upto order.total x y z h k

  left_by : (x y : V) (r : Ordering) → cmp x y ≡ r → AtMost cmp x (max_by_ordering r x y)
  left_by x y Less e = ap is_gt e
  left_by x y Equal e = ap is_gt e
  left_by x y Greater e = at_most_refl x

  right_by : (x y : V) (r : Ordering) → cmp x y ≡ r → AtMost cmp y (max_by_ordering r x y)
  right_by x y Less e = at_most_refl y
  right_by x y Equal e = at_most_refl y
  right_by x y Greater e = ap is_gt (order.total.antisymm y x ∙ ap ordering_reverse e)

  least_by : (x y z : V) (r : Ordering) → AtMost cmp x z → AtMost cmp y z → AtMost cmp (max_by_ordering r x y) z
  least_by x y z Less h k = k
  least_by x y z Equal h k = k
  least_by x y z Greater h k = h

  pub greater_laws : IsJoin (AtMost cmp) (greater cmp)
  greater_laws = record {
    reflexive = at_most_refl;
    antisymmetric = at_most_antisymm;
    transitive = at_most_trans;
    above_left = λ x y. left_by x y (cmp x y) refl;
    above_right = λ x y. right_by x y (cmp x y) refl;
    least = λ x y z. least_by x y z (cmp x y);
  }
