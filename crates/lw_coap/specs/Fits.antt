-- Which messages have a spelling (RFC 7252, sections 3 and 4.1; at most 8,192 bytes).
use Rattle.std.specs.Prelude.{◌≡◌, ℕ, ◌+◌, ◌-◌, ◌<◌, ◌≤◌, List, [], ◌∷◌, length, nat_lt, if◌then◌else◌}
use Rattle.lw_coap.specs.Message.{OptionContent, MessageContent}

-- how many bytes extend the nibble of a number (RFC 7252, section 3.1)
abbrev pub extension_length : ℕ → ℕ
extension_length n = if nat_lt n 13 then 0 else (if nat_lt n 269 then 1 else 2)

-- how many bytes an option takes behind an option of the number before
abbrev pub option_length : ℕ → OptionContent → ℕ
option_length before option = 1 + extension_length (option.number - before) + extension_length (length option.value) + length option.value

-- how many bytes options take, one after another
abbrev pub options_length : ℕ → List OptionContent → ℕ
options_length before [] = 0
options_length before (option ∷ options) = option_length before option + options_length option.number options

-- how many bytes a payload takes: a marker before it, and nothing where it is empty
abbrev pub payload_length : List ℕ → ℕ
payload_length [] = 0
payload_length (b ∷ payload) = 1 + length (b ∷ payload)

-- how many bytes a message takes
abbrev pub printed_length : MessageContent → ℕ
printed_length message = 4 + length message.token + options_length 0 message.options + payload_length message.payload

-- the numbers do not fall from the number before on, and each is at most 65535
abbrev pub AreRising : ℕ → List OptionContent → Type 0
AreRising before [] = Unit {0}
AreRising before (option ∷ options) = (before ≤ option.number) × (option.number < 65536) × AreRising option.number options

-- the message has a spelling
pub record Fits (message : MessageContent) : Type 0 where
  pub token : length message.token ≤ 8
  pub code : message.code < 256
  pub mid : message.mid < 65536
  pub options : AreRising 0 message.options
  pub empty : message.code ≡ 0 → printed_length message ≡ 4
  pub within : printed_length message ≤ 8192
