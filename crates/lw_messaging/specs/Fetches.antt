-- Notifications in blocks, of which a server fetches the rest (RFC 7959, sections 2.4, 2.6, 2.7 and 3.4; RFC 7641,
-- section 3).
use Rattle.std.specs.Prelude.{◌≡◌, ℕ, ◌+◌, ◌%◌, ◌^◌, ◌≤◌, ◌==◌, nat_lt, nat_le, Bool, true, false, not, ◌&&◌}
use Rattle.std.specs.Prelude.{if◌then◌else◌, List, [], ◌∷◌, ◌++◌, length, drop, filter, find, bytes_eq, Option}
use Rattle.std.specs.Prelude.{Some, None}
use Rattle.std.specs.List.{AllByRecursion}
use Rattle.std.specs.declared.alloc.Global.{Global}
use Rattle.std.specs.declared.vec.Vec.{Vec}
use Rattle.lw_coap.specs.Message.{MessageContent}
use Rattle.lw_coap.specs.Grammar.{IsSpelling}
use Rattle.lw_coap.specs.Fits.{Fits, printed_length}
use Rattle.lw_reg.specs.declared.addr.Addr.{Addr}
use Rattle.lw_reg.specs.declared.watch.Watch.{Watch}
use Rattle.lw_reg.specs.AddrOrder.{same_addr}
use Rattle.lw_reg.specs.Reading.{has_token}
use Rattle.lw_messaging.specs.declared.parcel.Parcel.{Parcel}
use Rattle.lw_messaging.specs.declared.parcel.Parcel.TheVariants.{Through, Taken, Whole}
use Rattle.lw_messaging.specs.Blocks.{block_number, has_more, block_offset, is_block_of}
use Rattle.lw_messaging.specs.FetchMessages.{is_response, is_content, block2_in, has_no_block2, etag_of, same_etag}
use Rattle.lw_messaging.specs.FetchMessages.{has_token_of}
use Rattle.lw_messaging.specs.FetchMessages.{without_block2, told_by, acknowledgement_of, fetch_token, value_behind}
use Rattle.lw_messaging.specs.FetchMessages.{get_block}

-- ---- what is kept
-- A fetch: its number, where its notification came from, what that is of, the moment of the last block in milliseconds,
-- the ETag of the blocks, and the message for the store as far as it has come.
pub record FetchContent : Type 0 where
  pub number : ℕ
  pub from : Addr
  pub watch : Watch
  pub last : ℕ
  pub etag : Option (List ℕ)
  pub message : MessageContent

-- the number that the next fetch has, and the fetches, of which that whose last block is oldest comes first
pub record FetchesContent : Type 0 where
  pub next : ℕ
  pub fetches : List FetchContent

-- a fetch is of a 2.05 that has a spelling, so of at most 8,192 bytes
abbrev pub IsKept : FetchContent → Type 0
IsKept fetch = Fits fetch.message × (fetch.message.code ≡ 0x45)

-- at most 512 fetches
pub record AreBounded (fetches : List FetchContent) : Type 0 where
  pub count : length fetches ≤ 512
  pub each : AllByRecursion IsKept fetches

-- a fetch ends 247 seconds after its last block: EXCHANGE_LIFETIME (RFC 7252, section 4.8.2)
abbrev pub is_live : ℕ → FetchContent → Bool
is_live now fetch = nat_le now (fetch.last + 247000)

-- the fetch is of a notification of the observation, from the address
abbrev pub is_of : Addr → Watch → FetchContent → Bool
is_of from watch fetch = same_addr fetch.from from && has_token watch.token fetch.watch

abbrev pub has_number : ℕ → FetchContent → Bool
has_number number fetch = fetch.number == number

-- a response answers the fetch whose token it has, from the address that was asked (RFC 7252, section 5.3.2)
abbrev pub is_answered : ℕ → Addr → List ℕ → FetchContent → Bool
is_answered now from token fetch =
    is_live now fetch && same_addr fetch.from from && bytes_eq token (fetch_token fetch.number)

-- ---- what becomes of a message
pub data Outcome : Type 0 where
  -- it goes to the store as it came
  Passes : Outcome
  -- the message that the store takes: a notification that is whole in its only block
  Makes : MessageContent → Outcome
  -- a fetch begins; the next block is asked for, of the size of the block of this value
  Begins : FetchContent → ℕ → Outcome
  -- a fetch goes on as this one; the next block is asked for likewise
  Continues : FetchContent → ℕ → Outcome
  -- a fetch is over: what came of it, and whether that is the whole
  Ends : FetchContent → Bool → Outcome

-- ---- a notification in blocks
abbrev pub begun : ℕ → ℕ → Addr → Watch → MessageContent → FetchContent
begun number now from watch message =
    record {
      number = number;
      from = from;
      watch = watch;
      last = now;
      etag = etag_of message.options;
      message = told_by message;
    }

-- A notification has block 0, and is whole where no more follows. Another block, or one that is none, is left to the
-- store (section 2.6).
abbrev pub notified : ℕ → ℕ → Addr → Watch → MessageContent → ℕ → Outcome
notified number now from watch message value =
    if is_block_of value message.payload && (block_number value == 0)
    then (if has_more value then Begins (begun number now from watch message) value else Makes (without_block2 message))
    else Passes

-- ---- an answer to a request for a block
-- a message with another payload
abbrev pub message_with : MessageContent → List ℕ → MessageContent
message_with message payload = record message { payload = payload }

-- a fetch as far as a payload goes that is there now
abbrev pub with_payload : ℕ → FetchContent → List ℕ → FetchContent
with_payload now fetch payload = record fetch { last = now; message = message_with fetch.message payload }

-- a fetch that begins anew, of another state
abbrev pub anew : ℕ → FetchContent → Option (List ℕ) → FetchContent
anew now fetch etag = record (with_payload now fetch []) { etag = etag }

-- the whole, where that is at most 8,192 bytes
abbrev pub whole : FetchContent → FetchContent → Outcome
whole before fetch = if nat_lt 8192 (printed_length fetch.message) then Ends before false else Ends fetch true

-- a block that is put behind those before it, where that is at most 8,192 bytes
abbrev pub part : FetchContent → FetchContent → ℕ → Outcome
part before fetch value =
    if nat_lt 8192 (printed_length fetch.message) then Ends before false else Continues fetch value

abbrev pub put : ℕ → FetchContent → MessageContent → ℕ → Outcome
put now fetch message value =
    if has_more value then part fetch (with_payload now fetch (fetch.message.payload ++ message.payload)) value
    else whole fetch (with_payload now fetch (fetch.message.payload ++ message.payload))

-- A block of another state begins the fetch anew; one of the same state is put behind those before it, where it begins
-- at their end (section 2.4: all blocks have the ETag of the first).
abbrev pub block_came : ℕ → FetchContent → MessageContent → ℕ → Outcome
block_came now fetch message value =
    if is_block_of value message.payload
    then (
    if same_etag fetch.etag (etag_of message.options)
    then (if block_offset value == length fetch.message.payload then put now fetch message value else Ends fetch false)
    else Continues (anew now fetch (etag_of message.options)) value
    )
    else Ends fetch false

abbrev pub block_or_none : ℕ → FetchContent → MessageContent → Option ℕ → Outcome
block_or_none now fetch message None = Ends fetch false
block_or_none now fetch message (Some value) = block_came now fetch message value

-- 2.05 without Block2 is the whole in one message (section 2.2)
abbrev pub content_came : ℕ → FetchContent → MessageContent → Outcome
content_came now fetch message =
    if has_no_block2 message.options then whole fetch (with_payload now fetch message.payload)
    else block_or_none now fetch message (block2_in message.options)

-- any other response ends the fetch
abbrev pub answer_came : ℕ → FetchContent → MessageContent → Outcome
answer_came now fetch message =
    if message.code == 0x45 then content_came now fetch message else Ends fetch false

abbrev pub answered_by : ℕ → MessageContent → Option FetchContent → Outcome
answered_by now message None = Passes
answered_by now message (Some fetch) = answer_came now fetch message

abbrev pub answered : List FetchContent → ℕ → Addr → MessageContent → Outcome
answered fetches now from message =
    if is_response message then answered_by now message (find (is_answered now from message.token) fetches) else Passes

-- ---- any message, with the watch of its token, if that is one that lives
-- the value of the Block2 of a notification of the observation
abbrev pub block_of : Watch → MessageContent → Option ℕ
block_of watch message =
    if is_content message && has_token_of watch message then block2_in message.options else None

abbrev pub notified_by : FetchesContent → ℕ → Addr → Watch → MessageContent → Option ℕ → Outcome
notified_by old now from watch message None = answered old.fetches now from message
notified_by old now from watch message (Some value) = notified old.next now from watch message value

abbrev pub outcome : FetchesContent → ℕ → Addr → Option Watch → MessageContent → Outcome
outcome old now from None message = answered old.fetches now from message
outcome old now from (Some watch) message = notified_by old now from watch message (block_of watch message)

-- ---- what is kept then
-- what stays beside a fetch that begins: those that live, of other notifications
abbrev pub is_beside : FetchContent → FetchContent → Bool
is_beside new fetch = is_live new.last fetch && not (is_of new.from new.watch fetch)

-- room for one more: where there are 512, the oldest goes
abbrev pub with_room : List FetchContent → List FetchContent
with_room fetches = if nat_lt (length fetches) 512 then fetches else drop 1 fetches

abbrev pub with_fetch : List FetchContent → FetchContent → List FetchContent
with_fetch fetches fetch = with_room fetches ++ fetch ∷ []

abbrev pub is_other : ℕ → FetchContent → Bool
is_other number fetch = not (has_number number fetch)

abbrev pub others : ℕ → List FetchContent → List FetchContent
others number fetches = filter (is_other number) fetches

-- numbers have 32 bits, and 0 comes behind the last
abbrev pub next_number : ℕ → ℕ
next_number number = (number + 1) % 2 ^ 32

abbrev pub after : FetchesContent → Outcome → FetchesContent
after old Passes = old
after old (Makes message) = old
after old (Begins fetch value) =
    record { next = next_number old.next; fetches = with_fetch (filter (is_beside fetch) old.fetches) fetch }
after old (Continues fetch value) = record old { fetches = with_fetch (others fetch.number old.fetches) fetch }
after old (Ends fetch complete) = record old { fetches = others fetch.number old.fetches }

-- ---- what a caller is given
-- the bytes are those of the message, and there are none where there is none
abbrev pub IsSent : Option MessageContent → Option (Vec ℕ Global) → Type 0
IsSent None None = Unit {0}
IsSent (Some message) (Some bytes) = IsSpelling bytes.items message
IsSent _ _ = ⊥

-- the request for the block behind what has come of the fetch
abbrev pub request_of : FetchContent → ℕ → MessageContent
request_of fetch value =
    get_block fetch.number fetch.watch.path fetch.watch.accept (value_behind value (length fetch.message.payload))

abbrev pub IsAsked : Option MessageContent → FetchContent → ℕ → Option (Vec ℕ Global) → Vec ℕ Global → ℕ → Type 0
IsAsked owed fetch value acknowledgement request number =
    IsSent owed acknowledgement × IsSpelling request.items (request_of fetch value) × (number ≡ fetch.number)

-- with the acknowledgement that is owed, if one is
abbrev pub IsParcel : Option MessageContent → Outcome → Parcel → Type 0
IsParcel owed Passes Through = Unit {0}
IsParcel owed (Makes whole) (Whole acknowledgement message is_complete) =
    IsSent None acknowledgement × IsSpelling message.items whole × (is_complete ≡ true)
IsParcel owed (Begins fetch value) (Taken acknowledgement request number) =
    IsAsked owed fetch value acknowledgement request number
IsParcel owed (Continues fetch value) (Taken acknowledgement request number) =
    IsAsked owed fetch value acknowledgement request number
IsParcel owed (Ends fetch complete) (Whole acknowledgement message is_complete) =
    IsSent owed acknowledgement × IsSpelling message.items fetch.message × (is_complete ≡ complete)
IsParcel _ _ _ = ⊥

-- what a caller is given, and what is kept, by an outcome
abbrev pub IsDone : FetchesContent → Option MessageContent → Outcome → Parcel → FetchesContent → Type 0
IsDone old owed outcome parcel new = IsParcel owed outcome parcel × (new ≡ after old outcome)

-- A datagram is taken: what spells no message passes, and with a message there is done what its outcome says.
pub record IsTaken (old : FetchesContent) (now : ℕ) (from : Addr) (watch : Option Watch) (bytes : List ℕ)
    (parcel : Parcel) (new : FetchesContent) : Type 0 where
  pub no_message : ((message : MessageContent) → IsSpelling bytes message → ⊥) → IsDone old None Passes parcel new
  pub message : (message : MessageContent) → IsSpelling bytes message
      → IsDone old (acknowledgement_of message) (outcome old now from watch message) parcel new

-- ---- a fetch that will not go on
-- what came of it, for the store, and what is kept then
abbrev pub IsCutOf : FetchesContent → Option FetchContent → Option (Vec ℕ Global) → FetchesContent → Type 0
IsCutOf old None None new = new ≡ old
IsCutOf old (Some fetch) (Some bytes) new =
    IsSpelling bytes.items fetch.message × (new ≡ record old { fetches = others fetch.number old.fetches })
IsCutOf old _ _ new = ⊥

abbrev pub IsCut : FetchesContent → ℕ → Option (Vec ℕ Global) → FetchesContent → Type 0
IsCut old number message new = IsCutOf old (find (has_number number) old.fetches) message new
