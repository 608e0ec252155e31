-- The number that the bytes of an option's value stand for (RFC 7252, section 3.2).
use Rattle.std.specs.Prelude.{ℕ, ◌+◌, ◌*◌, List, [], ◌∷◌}

-- the first bytes stand for high, and each further one is the lowest of the number
abbrev pub number_from : ℕ → List ℕ → ℕ
number_from high [] = high
number_from high (b ∷ bytes) = number_from (256 * high + b) bytes

-- most significant byte first; no bytes are 0
abbrev pub number_of : List ℕ → ℕ
number_of bytes = number_from 0 bytes
