-- Which fault is the first one of bytes that spell no message. RFC 7252 says what a message format error
-- is (sections 3, 3.1 and 4.1); the order is this library's.
use Rattle.std.specs.Prelude.{◌≡◌, ◌≢◌, ℕ, ◌+◌, ◌*◌, ◌<◌, ◌≤◌, ◌⊎◌, List, [], ◌∷◌, ◌++◌, length}
use Rattle.lw_coap.specs.declared.fault.Fault.{Fault}
use Rattle.lw_coap.specs.declared.fault.Fault.TheVariants.{Short, Version, TokenLength, OptionHead, Truncated, EmptyPayload, EmptyMessage, TooLong, NoMemory}
use Rattle.lw_coap.specs.Message.{OptionContent}
use Rattle.lw_coap.specs.Grammar.{IsHeader, IsOptionHead, AreOptions, number_after}

-- how many bytes extend a nibble: 13 has one, 14 has two (RFC 7252, section 3.1)
abbrev pub HasExtension : ℕ → ℕ → Type 0
HasExtension nibble count = ((nibble ≤ 12) × (count ≡ 0)) ⊎ (((nibble ≡ 13) × (count ≡ 1)) ⊎ ((nibble ≡ 14) × (count ≡ 2)))

-- a nibble of 15 stands in an option's first byte, which is not the payload marker
pub record HasReserved (bytes : List ℕ) : Type 0 where
  pub delta_nibble : ℕ
  pub length_nibble : ℕ
  pub rest : List ℕ
  pub bytes_are : bytes ≡ (16 * delta_nibble + length_nibble) ∷ rest
  pub delta_fits : delta_nibble ≤ 15
  pub length_fits : length_nibble ≤ 15
  pub reserved : (delta_nibble ≡ 15) ⊎ (length_nibble ≡ 15)
  pub no_marker : 16 * delta_nibble + length_nibble ≢ 255

-- both nibbles are good, and the bytes end before those that extend them
pub record IsCutHead (bytes : List ℕ) : Type 0 where
  pub delta_nibble : ℕ
  pub length_nibble : ℕ
  pub rest : List ℕ
  pub delta_count : ℕ
  pub length_count : ℕ
  pub bytes_are : bytes ≡ (16 * delta_nibble + length_nibble) ∷ rest
  pub delta_has : HasExtension delta_nibble delta_count
  pub length_has : HasExtension length_nibble length_count
  pub cut : length rest < delta_count + length_count

-- a whole option head, up to the value, and then the rest
pub record BeginsOption (bytes : List ℕ) (delta len : ℕ) (rest : List ℕ) : Type 0 where
  pub head : List ℕ
  pub head_is : IsOptionHead head delta len
  pub bytes_are : bytes ≡ head ++ rest

-- Behind whole options, the last of which has the number before, this part is the first that is not
-- whole: the payload marker at the end; else a reserved nibble; extended bytes that are cut; a number
-- above 65535; a value that is cut.
abbrev pub IsPartFault : ℕ → List ℕ → Fault → Type 0
IsPartFault before bytes EmptyPayload = bytes ≡ 255 ∷ []
IsPartFault before bytes OptionHead =
    HasReserved bytes ⊎ ((delta len : ℕ) × (rest : List ℕ) × BeginsOption bytes delta len rest × (65536 ≤ before + delta))
IsPartFault before bytes Truncated =
    IsCutHead bytes ⊎ ((delta len : ℕ) × (rest : List ℕ) × BeginsOption bytes delta len rest × (before + delta < 65536) × (length rest < len))
IsPartFault before bytes Short = ⊥
IsPartFault before bytes Version = ⊥
IsPartFault before bytes TokenLength = ⊥
IsPartFault before bytes EmptyMessage = ⊥
IsPartFault before bytes TooLong = ⊥
IsPartFault before bytes NoMemory = ⊥

-- these options are whole, and the part behind them is the first that is not
pub record IsOptionsFault (bytes : List ℕ) (fault : Fault) : Type 0 where
  pub options : List OptionContent
  pub front : List ℕ
  pub rest : List ℕ
  pub bytes_are : bytes ≡ front ++ rest
  pub whole : AreOptions 0 front options
  pub next : IsPartFault (number_after 0 options) rest fault

-- the bytes, within the limit, begin with a header of this version, token length and code
pub record HasHead (bytes : List ℕ) (version token_length code : ℕ) (rest : List ℕ) : Type 0 where
  pub kind : ℕ
  pub mid : ℕ
  pub header : IsHeader bytes version kind token_length code mid rest
  pub within : length bytes ≤ 8192

-- header and token are whole, of a message with a code, and the options and the payload have this fault
pub record IsBodyFault (bytes : List ℕ) (fault : Fault) : Type 0 where
  pub code : ℕ
  pub token : List ℕ
  pub body : List ℕ
  pub head : HasHead bytes 1 (length token) code (token ++ body)
  pub token_fits : length token ≤ 8
  pub code_is : code ≢ 0
  pub fault_is : IsOptionsFault body fault

-- header and code are good, and the bytes end before the token does
pub record IsCutToken (bytes : List ℕ) : Type 0 where
  pub token_length : ℕ
  pub code : ℕ
  pub rest : List ℕ
  pub head : HasHead bytes 1 token_length code rest
  pub token_fits : token_length ≤ 8
  pub code_is : code ≢ 0
  pub cut : length rest < token_length

-- The bytes spell no message, and this is their first fault: the length, the header's version, its token
-- length, what stands behind a code of 0.00, and then from left to right. Want of memory is none of them.
abbrev pub IsFault : List ℕ → Fault → Type 0
IsFault bytes TooLong = 8192 < length bytes
IsFault bytes Short = length bytes < 4
IsFault bytes Version = (version token_length code : ℕ) × (rest : List ℕ) × HasHead bytes version token_length code rest × (version ≢ 1)
IsFault bytes TokenLength = (token_length code : ℕ) × (rest : List ℕ) × HasHead bytes 1 token_length code rest × (8 < token_length)
IsFault bytes EmptyMessage =
    (token_length : ℕ) × (rest : List ℕ) × HasHead bytes 1 token_length 0 rest × (token_length ≤ 8) × ((0 < token_length) ⊎ (0 < length rest))
IsFault bytes Truncated = IsCutToken bytes ⊎ IsBodyFault bytes Truncated
IsFault bytes OptionHead = IsBodyFault bytes OptionHead
IsFault bytes EmptyPayload = IsBodyFault bytes EmptyPayload
IsFault bytes NoMemory = ⊥
