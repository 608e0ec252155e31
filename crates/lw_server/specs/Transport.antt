-- What comes over a transport.
use Rattle.std.specs.Prelude.{ℕ, ◌≤◌}
use Rattle.lw_server.specs.declared.transport.Incoming.{Incoming}
use Rattle.lw_server.specs.declared.transport.Incoming.TheVariants.{Datagram, Nothing, Closed}

-- the bytes of a datagram stand in a buffer of so many
abbrev pub IsWithin : ℕ → Incoming → Type 0
IsWithin room (Datagram count from) = count ≤ room
IsWithin room Nothing = Unit {0}
IsWithin room Closed = Unit {0}
