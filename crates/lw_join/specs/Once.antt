-- Nothing, or the greatest value so far.
use Rattle.std.specs.declared.cmp.Ordering.{Ordering}
use Rattle.lw_stamp.specs.Order.{AtMost}
use Rattle.lw_join.specs.Greater.{greater}
use Rattle.lw_join.specs.Options.{option_below, option_join}
use Rattle.lw_join.specs.declared.once.Once.{Once}

-- nothing is below all, and values are ordered by `cmp`
abbrev pub once_below : {V : Type 0} → (V → V → Ordering) → Once V → Once V → Type 0
once_below cmp x y = option_below (AtMost cmp) x.value y.value

-- the greater of the values that there are
abbrev pub once_join : {V : Type 0} → (V → V → Ordering) → Once V → Once V → Once V
once_join cmp x y = record { value = option_join (greater cmp) x.value y.value }
