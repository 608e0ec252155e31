-- Nothing, or the last write: a value with the stamp that wrote it.
use Rattle.std.specs.declared.cmp.Ordering.{Ordering}
use Rattle.std.specs.Ordering.{ordering_then}
use Rattle.lw_stamp.specs.declared.stamp.Stamp.{Stamp}
use Rattle.lw_stamp.specs.Order.{AtMost}
use Rattle.lw_stamp.specs.StampOrder.{stamp_cmp}
use Rattle.lw_join.specs.Greater.{greater}
use Rattle.lw_join.specs.Options.{option_below, option_join}
use Rattle.lw_join.specs.declared.lww.Lww.{Lww}

-- by stamp, and then by value
abbrev pub write_cmp : {V : Type 0} → (V → V → Ordering) → Stamp × V → Stamp × V → Ordering
write_cmp cmp x y = ordering_then (stamp_cmp x.0 y.0) (cmp x.1 y.1)

-- nothing is below all, and writes are ordered by stamp, then value
abbrev pub lww_below : {V : Type 0} → (V → V → Ordering) → Lww V → Lww V → Type 0
lww_below cmp x y = option_below (AtMost (write_cmp cmp)) x.write y.write

-- the greater of the writes that there are
abbrev pub lww_join : {V : Type 0} → (V → V → Ordering) → Lww V → Lww V → Lww V
lww_join cmp x y = record { write = option_join (greater (write_cmp cmp)) x.write y.write }
