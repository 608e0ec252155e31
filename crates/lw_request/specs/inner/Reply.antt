-- An answer by its parts.
use Rattle.std.specs.Prelude.{ℕ, List, []}
use Rattle.lw_coap.specs.declared.message.Kind.{Kind}
use Rattle.lw_coap.specs.Message.{OptionContent, MessageContent}

-- the message with these parts and no payload
abbrev pub answer_with : Kind → ℕ → List ℕ → ℕ → List OptionContent → MessageContent
answer_with kind mid token code options = record { kind = kind; code = code; mid = mid; token = token; options = options; payload = [] }
