-- What a join is: the least value above two (Shapiro et al., Conflict-free Replicated Data Types, 2011).
use Rattle.std.specs.Prelude.{◌≡◌}

-- `below` is an order of the values, and `join` gives the least value above two
pub record IsJoin {S : Type 0} (below : S → S → Type 0) (join : S → S → S) : Type 0 where
  pub reflexive : (x : S) → below x x
  pub antisymmetric : (x y : S) → below x y → below y x → x ≡ y
  pub transitive : (x y z : S) → below x y → below y z → below x z
  pub above_left : (x y : S) → below x (join x y)
  pub above_right : (x y : S) → below y (join x y)
  pub least : (x y z : S) → below x z → below y z → below (join x y) z

-- neither the order of the values nor a repeat of one changes what they join to
pub record IsSemilattice {S : Type 0} (join : S → S → S) : Type 0 where
  pub commutative : (x y : S) → join x y ≡ join y x
  pub associative : (x y z : S) → join (join x y) z ≡ join x (join y z)
  pub idempotent : (x : S) → join x x ≡ x
