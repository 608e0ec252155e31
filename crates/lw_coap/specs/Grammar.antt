-- Which bytes spell which message (RFC 7252, section 3): relations by cases, apart from reading and writing.
use Rattle.std.specs.Prelude.{◌≡◌, ℕ, ◌+◌, ◌*◌, ◌<◌, ◌≤◌, List, [], ◌∷◌, ◌++◌, length}
use Rattle.lw_coap.specs.declared.message.Kind.{Kind}
use Rattle.lw_coap.specs.declared.message.Kind.TheVariants.{Con, Non, Ack, Rst}
use Rattle.lw_coap.specs.Message.{OptionContent, MessageContent}

-- the type field of a kind (RFC 7252, section 3)
abbrev pub kind_number : Kind → ℕ
kind_number Con = 0
kind_number Non = 1
kind_number Ack = 2
kind_number Rst = 3

-- A nibble and the bytes that extend it stand for a number: 0 to 12 for itself, 13 for one byte more
-- plus 13, 14 for two bytes more plus 269 (RFC 7252, section 3.1).
abbrev pub IsExtended : ℕ → List ℕ → ℕ → Type 0
IsExtended nibble [] value = (nibble ≤ 12) × (value ≡ nibble)
IsExtended nibble (a ∷ []) value = (nibble ≡ 13) × (a < 256) × (value ≡ a + 13)
IsExtended nibble (a ∷ b ∷ []) value = (nibble ≡ 14) × (a < 256) × (b < 256) × (value ≡ 256 * a + b + 269)
IsExtended nibble (a ∷ b ∷ c ∷ more) value = ⊥

-- The bytes are an option up to its value, with this delta and this length: the two nibbles, the
-- extended delta, the extended length (RFC 7252, section 3.1).
pub record IsOptionHead (bytes : List ℕ) (delta len : ℕ) : Type 0 where
  pub delta_nibble : ℕ
  pub length_nibble : ℕ
  pub delta_bytes : List ℕ
  pub length_bytes : List ℕ
  pub bytes_are : bytes ≡ (16 * delta_nibble + length_nibble) ∷ (delta_bytes ++ length_bytes)
  pub delta_is : IsExtended delta_nibble delta_bytes delta
  pub length_is : IsExtended length_nibble length_bytes len

-- The bytes are this option, behind an option of the number before: its number is the one before plus
-- the delta (RFC 7252, section 3.1).
pub record IsOption (before : ℕ) (bytes : List ℕ) (option : OptionContent) : Type 0 where
  pub head : List ℕ
  pub delta : ℕ
  pub head_is : IsOptionHead head delta (length option.value)
  pub bytes_are : bytes ≡ head ++ option.value
  pub number_is : option.number ≡ before + delta
  pub in_range : option.number < 65536

-- the bytes are these options, one after another, behind an option of the number before
abbrev pub AreOptions : ℕ → List ℕ → List OptionContent → Type 0
AreOptions before bytes [] = bytes ≡ []
AreOptions before bytes (option ∷ options) =
    (front : List ℕ) × (rest : List ℕ) × (bytes ≡ front ++ rest) × IsOption before front option × AreOptions option.number rest options

-- the number of the last option, or the number before where there is none
abbrev pub number_after : ℕ → List OptionContent → ℕ
number_after before [] = before
number_after before (option ∷ options) = number_after option.number options

-- an empty payload is no bytes, and any other stands behind the marker 255 (RFC 7252, section 3)
abbrev pub IsPayload : List ℕ → List ℕ → Type 0
IsPayload bytes [] = bytes ≡ []
IsPayload bytes (b ∷ payload) = bytes ≡ 255 ∷ b ∷ payload

-- The bytes begin with a header: version, type and token length in one byte, the code, the message ID
-- most significant byte first (RFC 7252, section 3).
pub record IsHeader (bytes : List ℕ) (version kind token_length code mid : ℕ) (rest : List ℕ) : Type 0 where
  pub high : ℕ
  pub low : ℕ
  pub bytes_are : bytes ≡ (64 * version + 16 * kind + token_length) ∷ code ∷ high ∷ low ∷ rest
  pub mid_is : mid ≡ 256 * high + low
  pub kind_fits : kind < 4
  pub token_length_fits : token_length < 16
  pub code_fits : code < 256
  pub high_fits : high < 256
  pub low_fits : low < 256

-- The bytes spell the message: header of version 1, token of at most 8 bytes, options from number 0,
-- payload; with code 0.00 nothing stands behind the header (RFC 7252, sections 3 and 4.1). A message
-- has at most 8,192 bytes.
pub record IsSpelling (bytes : List ℕ) (message : MessageContent) : Type 0 where
  pub option_bytes : List ℕ
  pub payload_bytes : List ℕ
  pub header : IsHeader bytes 1 (kind_number message.kind) (length message.token) message.code message.mid (message.token ++ (option_bytes ++ payload_bytes))
  pub options : AreOptions 0 option_bytes message.options
  pub payload : IsPayload payload_bytes message.payload
  pub token : length message.token ≤ 8
  pub empty : message.code ≡ 0 → length bytes ≡ 4
  pub within : length bytes ≤ 8192
