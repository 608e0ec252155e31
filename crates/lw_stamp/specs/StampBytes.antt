-- The numbers that the eight bytes of a stamp hold.
use Rattle.std.specs.Prelude.{ℕ, List, ◌∷◌, take}
use Rattle.std.specs.Int.{w64, from_be_bytes}

-- the number in the first six bytes
abbrev pub counter_in : List ℕ → ℕ
counter_in bytes = from_be_bytes w64 (0 ∷ 0 ∷ take 6 bytes)
