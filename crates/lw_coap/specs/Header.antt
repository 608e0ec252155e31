-- What the first four bytes of a datagram say (RFC 7252, section 3).
use Rattle.std.specs.Prelude.{◌≢◌, ℕ, ◌/◌, ◌<◌, ◌⊎◌, List, length, slice_index}
use Rattle.lw_coap.specs.declared.message.Kind.{Kind}
use Rattle.lw_coap.specs.Grammar.{IsHeader, kind_number}

-- the bytes begin with a header of version 1 that has this kind, code and message ID
abbrev pub HasHeader : List ℕ → Kind → ℕ → ℕ → Type 0
HasHeader bytes kind code mid = (token_length : ℕ) × (rest : List ℕ) × IsHeader bytes 1 (kind_number kind) token_length code mid rest

-- fewer than four bytes, or another version in the upper two bits
abbrev pub HasNoHeader : List ℕ → Type 0
HasNoHeader bytes = (length bytes < 4) ⊎ (slice_index bytes 0 / 64 ≢ 1)
