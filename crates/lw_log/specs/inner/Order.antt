-- An order of what is known.

-- `below` is an order
pub record IsOrder {S : Type 0} (below : S → S → Type 0) : Type 0 where
  pub reflexive : (x : S) → below x x
  pub transitive : (x y z : S) → below x y → below y z → below x z
