-- What a turn takes of datagrams that may come in blocks, and what answers them (RFC 7959, sections 2.3, 2.5 and 2.9).
use Rattle.std.specs.Prelude.{◌≡◌, ℕ, ◌+◌, ◌-◌, ◌^◌, min, Bool, true, false, List, [], ◌∷◌, ◌++◌, length, map, filter_map, zip, Option, Some, None, option_map, Ok, IsSomeAnd}
use Rattle.std.specs.List.{count_by, AllZip}
use Rattle.std.specs.Option.{is_some}
use Rattle.std.specs.declared.alloc.Global.{Global}
use Rattle.std.specs.declared.vec.Vec.{Vec}
use Rattle.lw_stamp.specs.declared.moment.Moment.{Moment}
use Rattle.lw_stamp.specs.Moment.{ms_of}
use Rattle.lw_reg.specs.declared.addr.Addr.{Addr}
use Rattle.lw_udp.specs.declared.datagram.Datagram.{Datagram}
use Rattle.lw_messaging.specs.declared.block.Block.{Block}
use Rattle.lw_messaging.specs.declared.piece.Piece.{Piece}
use Rattle.lw_messaging.specs.declared.piece.Piece.TheVariants.{Through, Answered, Whole}
use Rattle.lw_messaging.specs.Blocks.{value_of}
use Rattle.lw_messaging.specs.BlockAnswers.{IsWithBlock}
use Rattle.lw_messaging.specs.Bodies.{IsTaken}
use Rattle.lw_messaging.specs.Kept.{BodyContent}
use Rattle.lw_call.specs.declared.call.Call.{Call}
use Rattle.lw_call.specs.declared.call.Call.TheVariants as calls
use Rattle.lw_call.specs.declared.reply.Reply.{Reply}
use Rattle.lw_call.specs.declared.reply.Reply.TheVariants as replies
use Rattle.lw_server.specs.declared.blocks.Origin.{Origin}
use Rattle.lw_server.specs.declared.blocks.Handled.{Handled}

-- ---- what becomes of the datagrams, each among the bodies that those before it left
pub record Arrival : Type 0 where
  pub datagram : Datagram
  pub piece : Piece

abbrev pub datagram_of : Arrival → Datagram
datagram_of arrival = arrival.datagram

abbrev pub AreTaken : Moment → List BodyContent → List Arrival → List BodyContent → Type 0
AreTaken now old [] new = new ≡ old
AreTaken now old (arrival ∷ arrivals) new =
    (mid : List BodyContent)
    × (IsTaken old (ms_of now) arrival.datagram.from arrival.datagram.bytes arrival.piece mid × AreTaken now mid arrivals new)

-- The bodies are those before, or those after some of the datagrams, from the first on.
pub record GoOn (now : Moment) (old : List BodyContent) (datagrams : List Datagram) (new : List BodyContent) : Type 0 where
  pub front : List Arrival
  pub rest : List Datagram
  pub are : datagrams ≡ map datagram_of front ++ rest
  pub taken : AreTaken now old front new

-- ---- what the store takes: the datagram as it came, or the message that a last block made whole
abbrev pub message_in : List ℕ → Piece → Option (List ℕ)
message_in bytes Through = Some bytes
message_in bytes (Answered reply) = None
message_in bytes (Whole message block) = Some message.items

abbrev pub call_of : Moment → Arrival → Option Call
call_of now arrival = option_map (calls.Take now arrival.datagram.from) (message_in arrival.datagram.bytes arrival.piece)

-- where a call comes from: the source, the datagram as it came, and the block that its reply has to name
abbrev pub origin_in : Datagram → Piece → Option Origin
origin_in datagram Through = Some (record { from = datagram.from; bytes = datagram.bytes; block = None })
origin_in datagram (Answered reply) = None
origin_in datagram (Whole message block) = Some (record { from = datagram.from; bytes = datagram.bytes; block = Some block })

abbrev pub origin_of : Arrival → Option Origin
origin_of arrival = origin_in arrival.datagram arrival.piece

-- ---- what is answered without the store
abbrev pub answered : Addr → List ℕ → Vec ℕ Global → Handled
answered from bytes reply = record { from = from; bytes = bytes; reply = Some reply; lacks_block = false }

abbrev pub answered_in : Datagram → Piece → Option Handled
answered_in datagram (Answered reply) = Some (answered datagram.from datagram.bytes reply)
answered_in datagram _ = None

abbrev pub answered_of : Arrival → Option Handled
answered_of arrival = answered_in arrival.datagram arrival.piece

-- ---- what is answered by the store
-- the bytes that answer a datagram, if it is owed an answer
abbrev pub reply_of : Handled → Option (List ℕ)
reply_of handled = option_map (λ reply. reply.items) handled.reply

-- The reply to the last block of a body names it. Where there is no memory for that, the reply goes as it is.
abbrev pub NamesBlock : Option Block → Option (List ℕ) → Option (List ℕ) → Bool → Type 0
NamesBlock None reply named lacks = (named ≡ reply) × (lacks ≡ false)
NamesBlock (Some block) None named lacks = (named ≡ None) × (lacks ≡ false)
NamesBlock (Some block) (Some reply) named false = IsSomeAnd named (IsWithBlock reply (value_of block))
NamesBlock (Some block) (Some reply) named true = named ≡ Some reply

-- a call that was made, by where it comes from, and what it replied
abbrev pub made : Origin → Reply → Option (Origin × Option (List ℕ))
made origin (replies.Take (Ok taken)) = Some (origin, taken.reply)
made origin reply = None

-- the calls that were made, in order
abbrev pub made_of : List Origin → List Reply → List (Origin × Option (List ℕ))
made_of origins replies = filter_map (λ p. made p.0 p.1) (zip origins replies)

pub record IsHandled (made : Origin × Option (List ℕ)) (handled : Handled) : Type 0 where
  pub from : handled.from ≡ made.0.from
  pub bytes : handled.bytes ≡ made.0.bytes
  pub reply : NamesBlock made.0.block made.1 (reply_of handled) handled.lacks_block

abbrev pub AreHandled : List Origin → List Reply → List Handled → Type 0
AreHandled origins replies handled = AllZip IsHandled (made_of origins replies) handled

-- ---- counts
abbrev pub lacks_block : Handled → Bool
lacks_block handled = handled.lacks_block

abbrev pub has_block : Origin → Bool
has_block origin = is_some origin.block

-- how many datagrams were blocks that were answered without the store, or made a message whole, after a turn
abbrev pub with_blocks : ℕ → List Handled → List Origin → ℕ
with_blocks count answered origins = min (count + (length answered + count_by has_block origins)) (2 ^ 64 - 1)
