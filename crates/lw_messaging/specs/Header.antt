-- What the first four bytes of a datagram say (RFC 7252, section 3).
use Rattle.std.specs.Prelude.{ℕ, ◌+◌, ◌*◌, ◌/◌, ◌%◌, Bool, false, ◌&&◌, ◌==◌, nat_le, List, ◌∷◌}

-- Version 1 in the upper two bits; confirmable, 0, or non-confirmable, 1, in the next two; and a code of class 0 that is
-- not that of an empty message (RFC 7252, sections 3 and 12.1).
abbrev pub is_request : List ℕ → Bool
is_request (first ∷ code ∷ high ∷ low ∷ rest) =
    (first / 64 == 1) && nat_le (first / 16 % 4) 1 && nat_le 1 code && nat_le code 31
is_request _ = false

-- the message ID, most significant byte first, and 0 where there is no whole header
abbrev pub message_id : List ℕ → ℕ
message_id (first ∷ code ∷ high ∷ low ∷ rest) = 256 * high + low
message_id _ = 0
