-- The messages by which the rest of a notification is fetched, and what the store is told of them (RFC 7959, sections
-- 2.1, 2.4 and 2.7).
use Rattle.std.specs.Prelude.{◌≡◌, ◌↔◌, ℕ, ◌+◌, ◌*◌, ◌/◌, ◌==◌, Bool, true, false, not, ◌&&◌, ◌||◌}
use Rattle.std.specs.Prelude.{List, []}
use Rattle.std.specs.Prelude.{◌∷◌, ◌++◌, length, filter, map, bytes_eq, slice_get, Option, Some, None, is_some}
use Rattle.std.specs.Fmt.{decimal}
use Rattle.std.specs.Int.{w32, to_be_bytes}
use Rattle.lw_stamp.specs.declared.stamp.Stamp.{Stamp}
use Rattle.lw_stamp.specs.Stamp.{stamp_bytes}
use Rattle.lw_coap.specs.declared.message.Kind.{Kind}
use Rattle.lw_coap.specs.declared.message.Kind.TheVariants.{Con, Non, Ack, Rst}
use Rattle.lw_coap.specs.Message.{OptionContent, MessageContent}
use Rattle.lw_coap.specs.Grammar.{IsSpelling}
use Rattle.lw_reg.specs.declared.path.Path.{Path}
use Rattle.lw_reg.specs.declared.watch.Watch.{Watch}
use Rattle.lw_reg.specs.Path.{path_numbers}
use Rattle.lw_messaging.specs.Blocks.{size_exponent, block_size, shortest_bytes, values_of, only_number}

-- ---- what came
-- a response is carried by each type of message but a Reset (RFC 7252, section 4.2)
abbrev pub carries : Kind → Bool
carries Con = true
carries Non = true
carries Ack = true
carries Rst = false

-- the class stands in the upper three bits: 2 is a success, 4 and 5 are errors (RFC 7252, section 5.2)
abbrev pub is_response_code : ℕ → Bool
is_response_code code = (code / 32 == 2) || ((code / 32 == 4) || (code / 32 == 5))

abbrev pub is_response : MessageContent → Bool
is_response message = carries message.kind && is_response_code message.code

-- 2.05 Content: the state of a resource (RFC 7252, section 5.9.1.5)
abbrev pub is_content : MessageContent → Bool
is_content message = carries message.kind && (message.code == 0x45)

-- The value of the Block2 of a message, which has the number 23 (section 2.1). Where there is no such option, or two,
-- or one of more than three bytes, there is none.
abbrev pub block2_in : List OptionContent → Option ℕ
block2_in options = only_number (values_of 23 options)

abbrev pub has_no_block2 : List OptionContent → Bool
has_no_block2 options = length (values_of 23 options) == 0

-- the ETag, which has the number 4: it tells the states of a resource apart (RFC 7252, section 5.10.6)
abbrev pub etag_of : List OptionContent → Option (List ℕ)
etag_of options = slice_get (values_of 4 options) 0

-- no ETag in both counts as the same
abbrev pub same_etag : Option (List ℕ) → Option (List ℕ) → Bool
same_etag None None = true
same_etag None (Some b) = false
same_etag (Some a) None = false
same_etag (Some a) (Some b) = bytes_eq a b

-- the token of an observation is its stamp
abbrev pub has_token_of : Watch → MessageContent → Bool
has_token_of watch message = bytes_eq message.token (stamp_bytes watch.token)

-- a notification in blocks, or its first response
abbrev pub is_in_blocks : MessageContent → Bool
is_in_blocks message = is_content message && is_some (block2_in message.options)

-- The token of a notification in blocks as a stamp, where it is one. Other bytes have none.
pub record IsTokenInBlocks (bytes : List ℕ) (token : Option Stamp) : Type 0 where
  pub no_message : ((message : MessageContent) → IsSpelling bytes message → ⊥) → token ≡ None
  pub message : (message : MessageContent) → IsSpelling bytes message → (stamp : Stamp)
      → (token ≡ Some stamp) ↔ ((is_in_blocks message ≡ true) × (stamp_bytes stamp ≡ message.token))

-- ---- what the store is told
abbrev pub is_no_block2 : OptionContent → Bool
is_no_block2 option = not (option.number == 23)

-- a notification that is whole in its only block
abbrev pub without_block2 : MessageContent → MessageContent
without_block2 message = record message { options = filter is_no_block2 message.options }

-- The options of a notification without those of its blocks: Block2, Size2, which has the number 28 (section 4), and
-- the ETag, by which its blocks are known.
abbrev pub is_of_notification : OptionContent → Bool
is_of_notification option = not ((option.number == 4) || ((option.number == 23) || (option.number == 28)))

-- the notification as far as its first block goes, for a store that has nothing to acknowledge
abbrev pub told_by : MessageContent → MessageContent
told_by message =
    record {
      kind = Non;
      code = 0x45;
      mid = 0;
      token = message.token;
      options = filter is_of_notification message.options;
      payload = message.payload;
    }

-- ---- what is sent
-- a confirmable message is acknowledged by an empty one with its message ID (RFC 7252, section 4.2)
abbrev pub acknowledgement_to : Kind → ℕ → Option MessageContent
acknowledgement_to Con mid = Some (record { kind = Ack; code = 0; mid = mid; token = []; options = []; payload = [] })
acknowledgement_to Non mid = None
acknowledgement_to Ack mid = None
acknowledgement_to Rst mid = None

abbrev pub acknowledgement_of : MessageContent → Option MessageContent
acknowledgement_of message = acknowledgement_to message.kind message.mid

-- the token of a fetch: four bytes, most significant first
abbrev pub fetch_token : ℕ → List ℕ
fetch_token number = to_be_bytes w32 number

-- each number of a path is a segment, in decimal (LwM2M 1.1 Transport, section 6.4); Uri-Path has the number 11
abbrev pub segment : ℕ → OptionContent
segment number = record { number = 11; value = decimal number }

-- Accept has the number 17 (RFC 7252, section 5.10.4)
abbrev pub accepts : Option ℕ → List OptionContent
accepts None = []
accepts (Some format) = record { number = 17; value = shortest_bytes format } ∷ []

-- The value of a Block2 that asks for the block behind so many bytes, of the size of the block of the value: its
-- number, no more, and its exponent (section 2.2).
abbrev pub value_behind : ℕ → ℕ → ℕ
value_behind value count = 16 * (count / block_size value) + size_exponent value

abbrev pub block2 : ℕ → OptionContent
block2 value = record { number = 23; value = shortest_bytes value }

-- A confirmable GET of a block of the path, in the format that is accepted, if one is, with the number of a fetch as
-- its token (section 2.4).
abbrev pub get_block : ℕ → Path → Option ℕ → ℕ → MessageContent
get_block number path accept value =
    record {
      kind = Con;
      code = 1;
      mid = 0;
      token = fetch_token number;
      options = map segment (path_numbers path) ++ (accepts accept ++ block2 value ∷ []);
      payload = [];
    }
