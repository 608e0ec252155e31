-- The greater of two values of an order.
use Rattle.std.specs.declared.cmp.Ordering.{Ordering}
use Rattle.std.specs.Ordering.{max_by_ordering}

-- the greater of two
abbrev pub greater : {V : Type 0} → (V → V → Ordering) → V → V → V
greater cmp x y = max_by_ordering (cmp x y) x y
