-- A stamp is a counter and a node's number. Its bytes are the token of an observation (RFC 7252,
-- section 5.3.1), and their hex text is the identifier of a registration (LwM2M 1.1 Core, section 6.2.1).
use Rattle.std.specs.Prelude.{ℕ, List, ◌++◌, drop}
use Rattle.std.specs.Int.{w16, w64, to_be_bytes}
use Rattle.hex.specs.Hex.{encode_lower}
use Rattle.lw_stamp.specs.declared.stamp.Stamp.{Stamp}

-- the lower six bytes of the counter and the two bytes of the node, most significant first
abbrev pub stamp_bytes : Stamp → List ℕ
stamp_bytes s = drop 2 (to_be_bytes w64 s.counter) ++ to_be_bytes w16 s.node

-- the identifier
abbrev pub id_of : Stamp → List ℕ
id_of s = encode_lower (stamp_bytes s)
