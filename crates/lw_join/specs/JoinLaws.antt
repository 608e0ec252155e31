-- What follows for every join, and joins of types whose values are those of another type.
use Rattle.std.specs.Prelude.{◌≡◌}
use Rattle.std.proofs.Common.{sym, ap, ◌∙◌, subst}
use Rattle.lw_join.specs.Join.{IsJoin, IsSemilattice}

module _ {S : Type 0} {below : S → S → Type 0} {join : S → S → S} (laws : IsJoin below join) where
  half_swapped : (x y : S) → below (join x y) (join y x)
  half_swapped x y = laws.least x y (join y x) (laws.above_right y x) (laws.above_left y x)

  to_right : (x y z : S) → below (join (join x y) z) (join x (join y z))
  to_right x y z =
      let yz : below (join y z) (join x (join y z)) = laws.above_right x (join y z) in
      laws.least (join x y) z (join x (join y z))
      (laws.least x y (join x (join y z)) (laws.above_left x (join y z)) (laws.transitive y (join y z) (join x (join y z)) (laws.above_left y z) yz))
      (laws.transitive z (join y z) (join x (join y z)) (laws.above_right y z) yz)

  to_left : (x y z : S) → below (join x (join y z)) (join (join x y) z)
  to_left x y z =
      let xy : below (join x y) (join (join x y) z) = laws.above_left (join x y) z in
      laws.least x (join y z) (join (join x y) z)
      (laws.transitive x (join x y) (join (join x y) z) (laws.above_left x y) xy)
      (laws.least y z (join (join x y) z) (laws.transitive y (join x y) (join (join x y) z) (laws.above_right x y) xy) (laws.above_right (join x y) z))

  pub semilattice : IsSemilattice join
  semilattice = record {
    commutative = λ x y. laws.antisymmetric (join x y) (join y x) (half_swapped x y) (half_swapped y x);
    associative = λ x y z. laws.antisymmetric (join (join x y) z) (join x (join y z)) (to_right x y z) (to_left x y z);
    idempotent = λ x. laws.antisymmetric (join x x) x (laws.least x x x (laws.reflexive x) (laws.reflexive x)) (laws.above_left x x);
  }

  -- a value below another adds nothing to it
  pub absorbed : (x y : S) → below y x → join x y ≡ x
  absorbed x y h = laws.antisymmetric (join x y) x (laws.least x y x (laws.reflexive x) h) (laws.above_left x y)

-- the values of T are those of S
module _ {S T : Type 0} (to : T → S) (from : S → T) (to-from : (s : S) → to (from s) ≡ s) (from-to : (t : T) → from (to t) ≡ t) {below : S → S → Type 0} {join : S → S → S} (laws : IsJoin below join) where
  pub laws_along : IsJoin (λ x y. below (to x) (to y)) (λ x y. from (join (to x) (to y)))
  laws_along = record {
    reflexive = λ x. laws.reflexive (to x);
    antisymmetric = λ x y h k. sym (from-to x) ∙ ap from (laws.antisymmetric (to x) (to y) h k) ∙ from-to y;
    transitive = λ x y z. laws.transitive (to x) (to y) (to z);
    above_left = λ x y. subst (below (to x)) (sym (to-from (join (to x) (to y)))) (laws.above_left (to x) (to y));
    above_right = λ x y. subst (below (to y)) (sym (to-from (join (to x) (to y)))) (laws.above_right (to x) (to y));
    least = λ x y z h k. subst (λ w. below w (to z)) (sym (to-from (join (to x) (to y)))) (laws.least (to x) (to y) (to z) h k);
  }
