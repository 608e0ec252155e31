-- What devices report.
use Rattle.std.specs.Prelude.{ℕ, Bool, false, nat_le, nat_lt, ◌&&◌, List, ◌∷◌}

-- a datagram with the code of a response: its class is from 2 to 5 (RFC 7252, section 3)
abbrev pub is_report : List ℕ → Bool
is_report (first ∷ code ∷ high ∷ low ∷ rest) = nat_le 64 code && nat_lt code 192
is_report _ = false
