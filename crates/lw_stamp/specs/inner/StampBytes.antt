-- The number of the node in the bytes of a stamp.
use Rattle.std.specs.Prelude.{ℕ, List, drop}
use Rattle.std.specs.Int.{w16, from_be_bytes}

-- the number in the last two bytes
abbrev pub node_in : List ℕ → ℕ
node_in bytes = from_be_bytes w16 (drop 6 bytes)
