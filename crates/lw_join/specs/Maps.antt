-- Finite maps: their order key by key, and their join key by key.
use Rattle.std.specs.Prelude.{List, [], ◌∷◌, ◌++◌, Option, Some, None}
use Rattle.std.specs.declared.cmp.Ordering.{Ordering}
use Rattle.std.specs.FinMap.{FinMap, empty, get, insert, keys}
use Rattle.lw_join.specs.Options.{option_below, option_join}

module _ {K V : Type 0} {R : K → K → Ordering} where
  -- each key of the left is in the right, and its value is below
  abbrev pub map_below : (V → V → Type 0) → FinMap R V → FinMap R V → Type 0
  map_below below m n = (k : K) → option_below below (get m k) (get n k)

  abbrev pub with_option : FinMap R V → K → Option V → FinMap R V
  with_option m k None = m
  with_option m k (Some v) = insert m k v

  -- the map that has the value of f at each of the keys where f has one
  abbrev pub from_keys : List K → (K → Option V) → FinMap R V
  from_keys [] f = empty
  from_keys (k ∷ ks) f = with_option (from_keys ks f) k (f k)

  -- at each key the join of the values
  unfoldable pub map_join : (V → V → V) → FinMap R V → FinMap R V → FinMap R V
  map_join join m n = from_keys (keys m ++ keys n) (λ k. option_join join (get m k) (get n k))

  -- the map of one key
  abbrev pub one_key : K → V → FinMap R V
  one_key k v = insert empty k v
