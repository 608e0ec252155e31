-- The message of bytes, or none where they spell none.
use Rattle.std.specs.Prelude.{ℕ, List, Option, Some, None}
use Rattle.lw_coap.specs.Message.{MessageContent}
use Rattle.lw_coap.specs.Grammar.{IsSpelling}

abbrev pub Spells : List ℕ → Option MessageContent → Type 0
Spells bytes None = (message : MessageContent) → IsSpelling bytes message → ⊥
Spells bytes (Some message) = IsSpelling bytes message
