-- The counter of a node.
use Rattle.std.specs.Prelude.{ℕ}
use Rattle.lw_stamp.specs.declared.clock.Clock.{Clock}

abbrev pub counter_of : Clock → ℕ
counter_of clock = clock.counter
