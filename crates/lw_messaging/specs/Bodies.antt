-- Bodies that come in blocks, and what the store takes of them (RFC 7959, section 2.5).
use Rattle.std.specs.Prelude.{◌≡◌, ℕ, ◌+◌, ◌*◌, ◌<◌, ◌≤◌, ◌==◌, nat_lt, nat_le, Bool, not, ◌&&◌, if◌then◌else◌, List}
use Rattle.std.specs.Prelude.{[], ◌∷◌, ◌++◌, length, filter, find, sum_by, Option, Some, None, option_map}
use Rattle.std.specs.Cmp.Lexicographic.{pointwise}
use Rattle.lw_coap.specs.Message.{OptionContent, MessageContent}
use Rattle.lw_coap.specs.Grammar.{IsSpelling}
use Rattle.lw_coap.specs.Fits.{printed_length}
use Rattle.lw_reg.specs.declared.addr.Addr.{Addr}
use Rattle.lw_reg.specs.AddrOrder.{same_addr}
use Rattle.lw_messaging.specs.declared.piece.Piece.{Piece}
use Rattle.lw_messaging.specs.declared.piece.Piece.TheVariants.{Through, Answered, Whole}
use Rattle.lw_messaging.specs.Blocks.{block_number, has_more, block_offset, is_block_of, value_of}
use Rattle.lw_messaging.specs.BlockAnswers.{block_of, without_block, bad_request, incomplete, too_large, continue_with}
use Rattle.lw_messaging.specs.Kept.{BodyContent, is_live, is_of, others, with_body}

-- ---- what came so far
-- nothing stands before block 0; before another stand the bytes of a live body that ends where the block begins
abbrev pub continues : ℕ → Addr → List OptionContent → ℕ → BodyContent → Bool
continues now from options offset body = is_live now body && is_of from options body && (length body.payload == offset)

abbrev pub payload_of : BodyContent → List ℕ
payload_of body = body.payload

abbrev pub begun : List BodyContent → ℕ → Addr → List OptionContent → ℕ → Option (List ℕ)
begun bodies now from options value =
    if block_number value == 0 then Some []
    else option_map payload_of (find (continues now from options (block_offset value)) bodies)

-- ---- what becomes of a datagram
pub data Outcome : Type 0 where
  -- it goes to the store as it came
  Passes : Outcome
  -- a refusal, which leaves what is kept
  Refuses : MessageContent → Outcome
  -- 2.31: more has to come, and this much has come
  Continues : MessageContent → BodyContent → Outcome
  -- the message that the store takes, and the value of its last Block1
  Makes : MessageContent → ℕ → Outcome

-- the message with all that has come, in place of its block
abbrev pub whole_of : MessageContent → List ℕ → MessageContent
whole_of message before = record message { payload = before ++ message.payload }

abbrev pub body_of : ℕ → Addr → MessageContent → BodyContent
body_of now from whole = record { from = from; last = now; options = whole.options; payload = whole.payload }

-- the whole of what has come: too much, or a part, or all
abbrev pub with_whole : ℕ → Addr → ℕ → MessageContent → Outcome
with_whole now from value whole =
    if nat_lt 8192 (printed_length whole) then Refuses (too_large whole)
    else if has_more value then Continues (continue_with whole value) (body_of now from whole)
    else Makes whole value

-- what stands before the block has come, or has not
abbrev pub behind : ℕ → Addr → ℕ → MessageContent → Option (List ℕ) → Outcome
behind now from value message None = Refuses (incomplete message)
behind now from value message (Some before) = with_whole now from value (whole_of message before)

-- A block of the value, in a message without Block1 and Size1, from a source at a moment: 4.00 where it is none, 4.08
-- where the body does not stand before it, 4.13 past 8,192 bytes; else it is put behind what came before it.
abbrev pub of_block : List BodyContent → ℕ → Addr → ℕ → MessageContent → Outcome
of_block bodies now from value message =
    if is_block_of value message.payload
    then behind now from value message (begun bodies now from message.options value)
    else Refuses (bad_request message)

abbrev pub outcome_of : List BodyContent → ℕ → Addr → MessageContent → Option ℕ → Outcome
outcome_of bodies now from message None = Passes
outcome_of bodies now from message (Some value) = of_block bodies now from value (without_block message)

abbrev pub outcome : List BodyContent → ℕ → Addr → MessageContent → Outcome
outcome bodies now from message = outcome_of bodies now from message (block_of message)

-- what is kept then
abbrev pub after : List BodyContent → ℕ → Addr → Outcome → List BodyContent
after bodies now from Passes = bodies
after bodies now from (Refuses answer) = bodies
after bodies now from (Continues answer body) = with_body (others now from body.options bodies) body
after bodies now from (Makes whole value) = others now from whole.options bodies

-- ---- what a caller is given
abbrev pub IsPiece : Outcome → Piece → Type 0
IsPiece Passes Through = Unit {0}
IsPiece (Refuses answer) (Answered bytes) = IsSpelling bytes.items answer
IsPiece (Continues answer body) (Answered bytes) = IsSpelling bytes.items answer
IsPiece (Makes whole value) (Whole bytes block) = IsSpelling bytes.items whole × (value_of block ≡ value)
IsPiece _ _ = ⊥

-- what a caller is given, and what is kept, by an outcome
abbrev pub IsDone : List BodyContent → ℕ → Addr → Outcome → Piece → List BodyContent → Type 0
IsDone old now from outcome piece new = IsPiece outcome piece × (new ≡ after old now from outcome)

-- A datagram is taken: what spells no message passes, and with a message there is done what its outcome says.
pub record IsTaken (old : List BodyContent) (now : ℕ) (from : Addr) (bytes : List ℕ) (piece : Piece)
    (new : List BodyContent) : Type 0 where
  pub no_message : ((message : MessageContent) → IsSpelling bytes message → ⊥) → IsDone old now from Passes piece new
  pub message : (message : MessageContent) → IsSpelling bytes message
      → IsDone old now from (outcome old now from message) piece new
