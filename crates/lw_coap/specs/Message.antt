-- What a message and an option are, without where they lie in memory (RFC 7252, section 3).
use Rattle.std.specs.Prelude.{ℕ, List}
use Rattle.lw_coap.specs.declared.message.Kind.{Kind}

-- an option: its number and the bytes of its value
pub record OptionContent : Type 0 where
  pub number : ℕ
  pub value : List ℕ

-- a message: an empty payload is none
pub record MessageContent : Type 0 where
  pub kind : Kind
  pub code : ℕ
  pub mid : ℕ
  pub token : List ℕ
  pub options : List OptionContent
  pub payload : List ℕ
