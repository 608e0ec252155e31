-- A key and a value: the greater key counts alone, and at one key the values join.
use Rattle.std.specs.declared.cmp.Ordering.{Ordering}
use Rattle.std.specs.Ordering.{MatchOrdering, match_ordering}

-- the lesser key is below, and at one key the value decides
abbrev pub keyed_below : {K V : Type 0} → (K → K → Ordering) → (V → V → Type 0) → K × V → K × V → Type 0
keyed_below cmp below x y = MatchOrdering (cmp x.0 y.0) (Unit {0}) (below x.1 y.1) ⊥

-- the pair of the greater key, and at one key the join of the values
abbrev pub keyed_join : {K V : Type 0} → (K → K → Ordering) → (V → V → V) → K × V → K × V → K × V
keyed_join cmp join x y = match_ordering (cmp x.0 y.0) y (x.0, join x.1 y.1) x
