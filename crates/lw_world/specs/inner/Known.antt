-- What the next operation of a node starts from: its number, its clock and the moment.
use Rattle.std.specs.Prelude.{ℕ}
use Rattle.lw_node.specs.Effects.{Issuer}
use Rattle.lw_world.specs.Known.{Knowledge}

abbrev pub issuer_of : Knowledge → ℕ → Issuer
issuer_of k now = record { number = k.number; clock = k.clock; now = now }
