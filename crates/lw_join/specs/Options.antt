-- Nothing, or a value, where nothing is below every value.
use Rattle.std.specs.Prelude.{Option, Some, None}

-- nothing is below all, and no value is below nothing
abbrev pub option_below : {V : Type 0} → (V → V → Type 0) → Option V → Option V → Type 0
option_below below None y = Unit {0}
option_below below (Some x) None = ⊥
option_below below (Some x) (Some y) = below x y

-- the one that there is, or the join of the two
abbrev pub option_join : {V : Type 0} → (V → V → V) → Option V → Option V → Option V
option_join join None y = y
option_join join (Some x) None = Some x
option_join join (Some x) (Some y) = Some (join x y)
