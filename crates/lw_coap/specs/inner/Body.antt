-- The parts of a message as reading meets them (RFC 7252, section 3).
use Rattle.std.specs.Prelude.{◌≡◌, ℕ, ◌≤◌, ◌⊎◌, List, [], ◌∷◌, ◌++◌, length, Result, Ok, Err}
use Rattle.lw_coap.specs.declared.fault.Fault.{Fault}
use Rattle.lw_coap.specs.declared.fault.Fault.TheVariants.{NoMemory}
use Rattle.lw_coap.specs.declared.message.Kind.{Kind}
use Rattle.lw_coap.specs.Message.{OptionContent, MessageContent}
use Rattle.lw_coap.specs.Grammar.{IsHeader, AreOptions, IsPayload, IsSpelling, kind_number}
use Rattle.lw_coap.specs.Faults.{IsFault}

-- nothing, or a payload marker
abbrev pub IsBodyEnd : List ℕ → Type 0
IsBodyEnd [] = Unit {0}
IsBodyEnd (b ∷ bytes) = b ≡ 255

-- options and a payload, of the bytes behind a token
pub record IsBody (bytes : List ℕ) (options : List OptionContent) (payload : List ℕ) : Type 0 where
  pub front : List ℕ
  pub rest : List ℕ
  pub bytes_are : bytes ≡ front ++ rest
  pub whole : AreOptions 0 front options
  pub payload_is : IsPayload rest payload

-- header and token are those of a message, whose body this is
pub record IsFrame (bytes : List ℕ) (kind : Kind) (code mid : ℕ) (token body : List ℕ) : Type 0 where
  pub header : IsHeader bytes 1 (kind_number kind) (length token) code mid (token ++ body)
  pub token_fits : length token ≤ 8
  pub empty : code ≡ 0 → (token ≡ []) × (body ≡ [])
  pub within : length bytes ≤ 8192

-- a message, or want of memory in its place, or a fault
abbrev pub Reads : List ℕ → Result MessageContent Fault → Type 0
Reads bytes (Ok m) = IsSpelling bytes m
Reads bytes (Err f) = ((f ≡ NoMemory) × (m : MessageContent) × IsSpelling bytes m) ⊎ IsFault bytes f
