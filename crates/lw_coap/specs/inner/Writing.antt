-- The bytes of a message that fits, part by part.
use Rattle.std.specs.Prelude.{ℕ, ◌+◌, ◌-◌, ◌*◌, ◌/◌, ◌%◌, List, [], ◌∷◌, ◌++◌, length, nat_lt, if◌then◌else◌}
use Rattle.lw_coap.specs.Message.{OptionContent, MessageContent}
use Rattle.lw_coap.specs.Grammar.{kind_number}

-- the nibble of a number
abbrev pub nibble_of : ℕ → ℕ
nibble_of n = if nat_lt n 13 then n else (if nat_lt n 269 then 13 else 14)

-- the bytes that extend the nibble of a number
abbrev pub extension_of : ℕ → List ℕ
extension_of n = if nat_lt n 13 then [] else (if nat_lt n 269 then (n - 13) ∷ [] else ((n - 269) / 256) ∷ ((n - 269) % 256) ∷ [])

-- an option behind an option of the number before
abbrev pub option_bytes : ℕ → OptionContent → List ℕ
option_bytes before option =
    ((16 * nibble_of (option.number - before) + nibble_of (length option.value)) ∷ (extension_of (option.number - before) ++ extension_of (length option.value))) ++ option.value

-- options, one after another
abbrev pub options_bytes : ℕ → List OptionContent → List ℕ
options_bytes before [] = []
options_bytes before (option ∷ options) = option_bytes before option ++ options_bytes option.number options

-- the marker and the payload, or nothing
abbrev pub payload_bytes : List ℕ → List ℕ
payload_bytes [] = []
payload_bytes (b ∷ payload) = 255 ∷ b ∷ payload

-- the four bytes of the header
abbrev pub header_bytes : MessageContent → List ℕ
header_bytes m = (64 + 16 * kind_number m.kind + length m.token) ∷ m.code ∷ (m.mid / 256) ∷ (m.mid % 256) ∷ []

-- the whole message
abbrev pub message_bytes : MessageContent → List ℕ
message_bytes m = header_bytes m ++ (m.token ++ (options_bytes 0 m.options ++ payload_bytes m.payload))
