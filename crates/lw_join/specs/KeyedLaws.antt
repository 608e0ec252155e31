-- The laws of pairs of key and value.
use Rattle.std.specs.Prelude.{◌≡◌}
use Rattle.std.specs.declared.cmp.Ordering.{Ordering}
use Rattle.std.specs.declared.cmp.Ordering.TheVariants.{Less, Equal, Greater}
use Rattle.std.specs.Ordering.{MatchOrdering, match_ordering, ordering_reverse, is_eq, is_lt}
use Rattle.std.specs.Cmp.{tied_itself, alike_right}
use Rattle.std.proofs.Common.{refl, sym, ap, ◌∙◌, subst}
use mathlib.Core.Bool.{true≢false}
use Rattle.lw_stamp.specs.Order.{IsExactOrder}
use Rattle.lw_join.specs.Join.{IsJoin}
use Rattle.lw_join.specs.Keyed.{keyed_below, keyed_join}

module _ {K V : Type 0} {cmp : K → K → Ordering} (order : IsExactOrder cmp) {below : V → V → Type 0} {join : V → V → V} (laws : IsJoin below join) where
  -- what the order says at a known answer
  at_less : (x y : K × V) → cmp x.0 y.0 ≡ Less → keyed_below cmp below x y
  at_less x y e = subst (λ r. MatchOrdering r (Unit {0}) (below x.1 y.1) ⊥) (sym e) tt

  at_equal : (x y : K × V) → cmp x.0 y.0 ≡ Equal → below x.1 y.1 → keyed_below cmp below x y
  at_equal x y e h = subst (λ r. MatchOrdering r (Unit {0}) (below x.1 y.1) ⊥) (sym e) h

  known : (x y : K × V) (r : Ordering) → cmp x.0 y.0 ≡ r → keyed_below cmp below x y → MatchOrdering r (Unit {0}) (below x.1 y.1) ⊥
  known x y r e h = subst (λ r. MatchOrdering r (Unit {0}) (below x.1 y.1) ⊥) e h

  reflexive : (x : K × V) → keyed_below cmp below x x
  reflexive x = at_equal x x (tied_itself order.total x.0) (laws.reflexive x.1)

  antisymm_by : (x y : K × V) (r s : Ordering) → cmp x.0 y.0 ≡ r → cmp y.0 x.0 ≡ s → s ≡ ordering_reverse r → MatchOrdering r (Unit {0}) (below x.1 y.1) ⊥ → MatchOrdering s (Unit {0}) (below y.1 x.1) ⊥ → x ≡ y
  antisymm_by x y Less Less p q e h k = absurd (true≢false (ap is_lt e))
  antisymm_by x y Less Equal p q e h k = absurd (true≢false (ap is_eq e))
  antisymm_by x y Less Greater p q e h k = absurd k
  antisymm_by x y Equal Less p q e h k = absurd (true≢false (ap is_lt e))
  antisymm_by x y Equal Equal p q e h k =
      let same_key = order.exact x.0 y.0 p in
      let same_value = laws.antisymmetric x.1 y.1 h k in
      λ i. (same_key i, same_value i)
  antisymm_by x y Equal Greater p q e h k = absurd k
  antisymm_by x y Greater s p q e h k = absurd h

  antisymmetric : (x y : K × V) → keyed_below cmp below x y → keyed_below cmp below y x → x ≡ y
  antisymmetric x y h k = antisymm_by x y (cmp x.0 y.0) (cmp y.0 x.0) refl refl (order.total.antisymm y.0 x.0) h k

  trans_by : (x y z : K × V) (r s : Ordering) → cmp x.0 y.0 ≡ r → cmp y.0 z.0 ≡ s → MatchOrdering r (Unit {0}) (below x.1 y.1) ⊥ → MatchOrdering s (Unit {0}) (below y.1 z.1) ⊥ → keyed_below cmp below x z
  trans_by x y z Less Less p q h k = at_less x z (order.total.trans x.0 y.0 z.0 p q)
  trans_by x y z Less Equal p q h k = at_less x z (sym (alike_right order.total y.0 z.0 x.0 q) ∙ p)
  trans_by x y z Less Greater p q h k = absurd k
  trans_by x y z Equal Less p q h k = at_less x z (order.total.congr x.0 y.0 z.0 p ∙ q)
  trans_by x y z Equal Equal p q h k = at_equal x z (order.total.congr x.0 y.0 z.0 p ∙ q) (laws.transitive x.1 y.1 z.1 h k)
  trans_by x y z Equal Greater p q h k = absurd k
  trans_by x y z Greater s p q h k = absurd h

  transitive : (x y z : K × V) → keyed_below cmp below x y → keyed_below cmp below y z → keyed_below cmp below x z
  transitive x y z h k = trans_by x y z (cmp x.0 y.0) (cmp y.0 z.0) refl refl h k

  left_by : (x y : K × V) (r : Ordering) → cmp x.0 y.0 ≡ r → keyed_below cmp below x (match_ordering r y (x.0, join x.1 y.1) x)
  left_by x y Less e = at_less x y e
  left_by x y Equal e = at_equal x (x.0, join x.1 y.1) (tied_itself order.total x.0) (laws.above_left x.1 y.1)
  left_by x y Greater e = reflexive x

  right_by : (x y : K × V) (r : Ordering) → cmp x.0 y.0 ≡ r → keyed_below cmp below y (match_ordering r y (x.0, join x.1 y.1) x)
  right_by x y Less e = reflexive y
  right_by x y Equal e = at_equal y (x.0, join x.1 y.1) (order.total.antisymm y.0 x.0 ∙ ap ordering_reverse e) (laws.above_right x.1 y.1)
  right_by x y Greater e = at_less y x (order.total.antisymm y.0 x.0 ∙ ap ordering_reverse e)

  -- an upper bound z of x and y whose key is theirs is above the join of the values
  both_by : (x y z : K × V) (s : Ordering) → cmp x.0 z.0 ≡ s → cmp y.0 z.0 ≡ s → MatchOrdering s (Unit {0}) (below x.1 z.1) ⊥ → MatchOrdering s (Unit {0}) (below y.1 z.1) ⊥ → keyed_below cmp below (x.0, join x.1 y.1) z
  both_by x y z Less p q h k = at_less (x.0, join x.1 y.1) z p
  both_by x y z Equal p q h k = at_equal (x.0, join x.1 y.1) z p (laws.least x.1 y.1 z.1 h k)
  both_by x y z Greater p q h k = absurd h

  least_by : (x y z : K × V) (r : Ordering) → cmp x.0 y.0 ≡ r → keyed_below cmp below x z → keyed_below cmp below y z → keyed_below cmp below (match_ordering r y (x.0, join x.1 y.1) x) z
  least_by x y z Less e h k = k
  least_by x y z Equal e h k =
      let same : cmp y.0 z.0 ≡ cmp x.0 z.0 = sym (order.total.congr x.0 y.0 z.0 e) in
      both_by x y z (cmp x.0 z.0) refl same h (known y z (cmp x.0 z.0) same k)
  least_by x y z Greater e h k = h

  pub keyed_laws : IsJoin (keyed_below cmp below) (keyed_join cmp join)
  keyed_laws = record {
    reflexive = reflexive;
    antisymmetric = antisymmetric;
    transitive = transitive;
    above_left = λ x y. left_by x y (cmp x.0 y.0) refl;
    above_right = λ x y. right_by x y (cmp x.0 y.0) refl;
    least = λ x y z. least_by x y z (cmp x.0 y.0) refl;
  }
