-- What is joined is the least value above the set of what was joined.
use Rattle.std.proofs.Common.{◌≡◌, ◌↔◌, ℕ, zero, suc, ◌<◌, List, [], ◌∷◌, length, get_or, inl, inr, sym, subst, arith}
use Rattle.std.specs.List.{Contains}
use Rattle.lw_join.specs.Join.{IsJoin}
use Rattle.lw_join.specs.Least.{IsLeastAbove, joined_all}
use Rattle.lw_join.specs.inner.Facets.{IsFacet, Either}

module _ {S : Type 0} {below : S → S → Type 0} {join : S → S → S} (laws : IsJoin below join) where
  pub least_one : (P : S → Type 0) (a b : S) → IsLeastAbove below P a → IsLeastAbove below P b → a ≡ b
  least_one P a b g h = laws.antisymmetric a b (g.least b h.above) (h.least a g.above)

  pub least_same : (P Q : S → Type 0) (a : S) → ((t : S) → P t ↔ Q t) → IsLeastAbove below P a → IsLeastAbove below Q a
  least_same P Q a same g = record { above = λ y q. g.above y ((same y).1 q); least = λ z h. g.least z (λ y p. h y ((same y).0 p)) }

  least_union : (P Q : S → Type 0) (a b : S) → IsLeastAbove below P a → IsLeastAbove below Q b → IsLeastAbove below (Either P Q) (join a b)
  least_union P Q a b g h = record {
    above = λ y. elim [
      | inl p ↦ laws.transitive y a (join a b) (g.above y p) (laws.above_left a b)
      | inr q ↦ laws.transitive y b (join a b) (h.above y q) (laws.above_right a b)
    ];
    least = λ z all. laws.least a b z (g.least z (λ y p. all y (inl p))) (h.least z (λ y q. all y (inr q)));
  }

  -- every join tells of a set the least value above it
  pub least_facet : IsFacet join (IsLeastAbove below)
  least_facet = record { union = least_union; same = least_same; one = least_one }

  -- of the set of x alone it is x
  pub least_single : (x : S) → IsLeastAbove below (λ y. y ≡ x) x
  least_single x = record { above = λ y e. subst (λ v. below v x) (sym e) (laws.reflexive x); least = λ z h. h x (λ i. x) }

  above_first : (x : S) (ys : List S) → below x (joined_all join x ys)
  above_first x [] = laws.reflexive x
  above_first x (y ∷ ys) = laws.transitive x (join x y) (joined_all join (join x y) ys) (laws.above_left x y) (above_first (join x y) ys)

  above_each : (x : S) (ys : List S) (k : ℕ) (z : S) → k < length ys → get_or ys k z ≡ z → below z (joined_all join x ys)
  above_each x [] k z lt at = absurd (omega arith)
  above_each x (y ∷ ys) zero z lt at =
      subst (λ v. below v (joined_all join (join x y) ys)) at
      (laws.transitive y (join x y) (joined_all join (join x y) ys) (laws.above_right x y) (above_first (join x y) ys))
  above_each x (y ∷ ys) (suc k) z lt at = above_each (join x y) ys k z (omega arith) at

  above_member : (x : S) (ys : List S) (z : S) (k : ℕ) → k < length (x ∷ ys) → get_or (x ∷ ys) k z ≡ z → below z (joined_all join x ys)
  above_member x ys z zero lt at = subst (λ v. below v (joined_all join x ys)) at (above_first x ys)
  above_member x ys z (suc k) lt at = above_each x ys k z (omega arith) at

  least_from : (x : S) (ys : List S) (w : S) → below x w → ((k : ℕ) (z : S) → k < length ys → get_or ys k z ≡ z → below z w) → below (joined_all join x ys) w
  least_from x [] w first each = first
  least_from x (y ∷ ys) w first each =
      least_from (join x y) ys w (laws.least x y w first (each 0 y (omega arith) (λ i. y))) (λ k z lt at. each (suc k) z (omega arith) at)

  -- the join of a list is the least value above its members
  pub joined_least : (x : S) (ys : List S) → IsLeastAbove below (Contains (x ∷ ys)) (joined_all join x ys)
  joined_least x ys = record {
    above = λ z found. above_member x ys z found.0 found.1 found.2;
    least = λ w all. least_from x ys w (all x (0, omega arith, λ i. x)) (λ k z lt at. all z (suc k, omega arith, at));
  }

  -- lists of the same members have one join
  pub joined_members : (x y : S) (xs ys : List S) → ((z : S) → Contains (x ∷ xs) z ↔ Contains (y ∷ ys) z) → joined_all join x xs ≡ joined_all join y ys
  joined_members x y xs ys same =
      least_one (Contains (y ∷ ys)) (joined_all join x xs) (joined_all join y ys)
      (least_same (Contains (x ∷ xs)) (Contains (y ∷ ys)) (joined_all join x xs) same (joined_least x xs)) (joined_least y ys)
