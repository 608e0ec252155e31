-- The last write: a value with the stamp that wrote it.
use Rattle.std.specs.declared.cmp.Ordering.{Ordering}
use Rattle.lw_stamp.specs.Order.{AtMost}
use Rattle.lw_join.specs.Greater.{greater}
use Rattle.lw_join.specs.Lww.{write_cmp}
use Rattle.lw_join.specs.declared.last.Last.{Last}

-- by stamp, and then by value
abbrev pub last_below : {V : Type 0} → (V → V → Ordering) → Last V → Last V → Type 0
last_below cmp x y = AtMost (write_cmp cmp) x.write y.write

-- the greater of the two
abbrev pub last_join : {V : Type 0} → (V → V → Ordering) → Last V → Last V → Last V
last_join cmp x y = record { write = greater (write_cmp cmp) x.write y.write }
