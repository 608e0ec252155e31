-- The least value above a set, and the join of the values of a list.
use Rattle.std.specs.Prelude.{List, [], ◌∷◌}

-- x is above each member of P, and below everything that is
pub record IsLeastAbove {S : Type 0} (below : S → S → Type 0) (P : S → Type 0) (x : S) : Type 0 where
  pub above : (y : S) → P y → below y x
  pub least : (z : S) → ((y : S) → P y → below y z) → below x z

-- the values of the list joined to x, one after the other
abbrev pub joined_all : {S : Type 0} → (S → S → S) → S → List S → S
joined_all join x [] = x
joined_all join x (y ∷ ys) = joined_all join (join x y) ys
