-- The order of stamps: by counter, then node.
use Rattle.std.specs.declared.cmp.Ordering.{Ordering}
use Rattle.std.specs.Ordering.{nat_cmp, ordering_then}
use Rattle.lw_stamp.specs.declared.stamp.Stamp.{Stamp}
use Rattle.lw_stamp.specs.contracts.stamp.StampOrd.TheImpl as derived

abbrev pub stamp_cmp : Stamp → Stamp → Ordering
stamp_cmp a b = ordering_then (nat_cmp a.counter b.counter) (nat_cmp a.node b.node)

-- what `cmp` gives
abbrev pub derived_cmp : Stamp → Stamp → Ordering
derived_cmp = (derived.ghosts).cmp
