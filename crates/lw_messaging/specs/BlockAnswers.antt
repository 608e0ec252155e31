-- The messages that answer a block, and the option that the reply to the last block has (RFC 7959, sections 2.5 and
-- 2.9).
use Rattle.std.specs.Prelude.{◌≡◌, ℕ, ◌==◌, nat_le, Bool, true, false, ◌&&◌, if◌then◌else◌, List, [], ◌∷◌, Option, Some}
use Rattle.std.specs.Prelude.{None}
use Rattle.lw_coap.specs.declared.message.Kind.{Kind}
use Rattle.lw_coap.specs.declared.message.Kind.TheVariants.{Con, Non, Ack, Rst}
use Rattle.lw_coap.specs.Message.{OptionContent, MessageContent}
use Rattle.lw_coap.specs.Grammar.{IsSpelling}
use Rattle.lw_coap.specs.Fits.{Fits}
use Rattle.lw_messaging.specs.Blocks.{block_in, body_options, shortest_bytes}

-- a confirmable or non-confirmable message (RFC 7252, sections 4.2 and 4.3)
abbrev pub asks : Kind → Bool
asks Con = true
asks Non = true
asks Ack = false
asks Rst = false

-- The value of the Block1 of a POST, by which a device registers and updates (LwM2M 1.1 Transport, section 6.4.3).
-- The code 0.02 is that of POST.
abbrev pub block_of : MessageContent → Option ℕ
block_of message = if asks message.kind && (message.code == 2) then block_in message.options else None

-- the message without Block1 and Size1
abbrev pub without_block : MessageContent → MessageContent
without_block message = record message { options = body_options message.options }

-- a confirmable request is answered in its acknowledgement, another in a non-confirmable message (RFC 7252, sections
-- 5.2.1 and 5.2.3)
abbrev pub answer_kind : Kind → Kind
answer_kind Con = Ack
answer_kind Non = Non
answer_kind Ack = Non
answer_kind Rst = Non

-- an answer has the message ID and the token of its request
abbrev pub answer_of : MessageContent → ℕ → List OptionContent → MessageContent
answer_of request code options =
    record {
      kind = answer_kind request.kind;
      code = code;
      mid = request.mid;
      token = request.token;
      options = options;
      payload = [];
    }

-- 4.00 Bad Request: the block is none, or its payload is not as long as it says (section 2.2)
abbrev pub bad_request : MessageContent → MessageContent
bad_request request = answer_of request 0x80 []

-- 4.08 Request Entity Incomplete: what stands before the block has not come (section 2.9.2)
abbrev pub incomplete : MessageContent → MessageContent
incomplete request = answer_of request 0x88 []

-- 4.13 Request Entity Too Large, with Size1: more than 8,192 bytes (section 2.9.3)
abbrev pub too_large : MessageContent → MessageContent
too_large request = answer_of request 0x8d (record { number = 60; value = shortest_bytes 8192 } ∷ [])

abbrev pub block1_of : List ℕ → OptionContent
block1_of bytes = record { number = 27; value = bytes }

abbrev pub block1 : ℕ → OptionContent
block1 value = block1_of (shortest_bytes value)

-- 2.31 Continue, with the Block1 of the request (section 2.9.1)
abbrev pub continue_with : MessageContent → ℕ → MessageContent
continue_with request value = answer_of request 0x5f (block1 value ∷ [])

-- an option among others, behind those whose numbers are not above its own (RFC 7252, section 3.1)
abbrev pub put_option : OptionContent → List OptionContent → List OptionContent
put_option option [] = option ∷ []
put_option option (first ∷ options) =
    if nat_le first.number option.number then first ∷ put_option option options else option ∷ first ∷ options

-- the message with the Block1 of the block that it answers (section 2.3)
abbrev pub with_block1 : MessageContent → ℕ → MessageContent
with_block1 message value = record message { options = put_option (block1 value) message.options }

-- Bytes of a reply with the Block1. What spells no message, or has no room for it, stays as it is.
pub record IsWithBlock (reply : List ℕ) (value : ℕ) (bytes : List ℕ) : Type 0 where
  pub put : (message : MessageContent) → IsSpelling reply message → Fits (with_block1 message value)
      → IsSpelling bytes (with_block1 message value)
  pub stays : ((message : MessageContent) → IsSpelling reply message → Fits (with_block1 message value) → ⊥)
      → bytes ≡ reply
