-- Confirmable requests of the server's own that wait for an answer: when each is sent again, and what answers it (RFC
-- 7252, sections 4.2, 4.8 and 5.2.2).
use Rattle.std.specs.Prelude.{◌≡◌, ℕ, ◌+◌, ◌-◌, ◌*◌, ◌/◌, ◌%◌, ◌^◌, ◌<◌, ◌==◌, nat_lt, nat_le, Bool, true, false, not}
use Rattle.std.specs.Prelude.{◌&&◌, ◌||◌, if◌then◌else◌, List, [], ◌∷◌, ◌++◌, length, filter, take, drop, bytes_eq}
use Rattle.std.specs.Prelude.{slice_get, slice_index, slice_set, position, Option, Some, None}
use Rattle.std.specs.List.{remove}
use Rattle.lw_stamp.specs.declared.moment.Moment.{Moment}
use Rattle.lw_stamp.specs.declared.stamp.Stamp.{Stamp}
use Rattle.lw_stamp.specs.Moment.{ms_of}
use Rattle.lw_stamp.specs.contracts.stamp.StampPartialEq.TheImpl as stamps
use Rattle.lw_reg.specs.declared.addr.Addr.{Addr}
use Rattle.lw_reg.specs.AddrOrder.{same_addr}
use Rattle.lw_messaging.specs.declared.message_ids.IdCounter.{IdCounter}
use Rattle.lw_messaging.specs.declared.pending_request.Purpose.{Purpose}
use Rattle.lw_messaging.specs.declared.pending_request.Purpose.TheVariants.{Observation, Cancellation, Rest}
use Rattle.lw_messaging.specs.declared.outgoing_requests.Matched.{Matched}
use Rattle.lw_messaging.specs.declared.outgoing_requests.Matched.TheVariants.{Nothing, Acknowledged, Reset}
use Rattle.lw_messaging.specs.declared.outgoing_requests.Step.{Step}
use Rattle.lw_messaging.specs.declared.outgoing_requests.Step.TheVariants as steps
use Rattle.lw_messaging.specs.MessageIds.{allotted_to, counters_after, with_message_id}
use Rattle.lw_messaging.specs.Header.{message_id}

-- a request: to whom it goes, what it is for, its bytes, its message ID once it was sent, how often it was sent, and
-- the moment in milliseconds at which it is sent next, or given up
pub record PendingContent : Type 0 where
  pub to : Addr
  pub purpose : Purpose
  pub bytes : List ℕ
  pub id : ℕ
  pub sent : ℕ
  pub due : ℕ

-- those that wait, in the order in which they came, and for how many there is memory
pub record OutgoingRequestsContent : Type 0 where
  pub list : List PendingContent
  pub capacity : ℕ

-- so many wait at most
abbrev pub most : ℕ
most = 1536

-- there is room for one more
pub record HasRoom (requests : OutgoingRequestsContent) : Type 0 where
  pub memory : length requests.list < requests.capacity
  pub fewer : length requests.list < most

-- ---- times (section 4.8)
-- The first time-out is from ACK_TIMEOUT, 2 seconds, to that times ACK_RANDOM_FACTOR, 1.5. Each later one is twice the
-- one before.
abbrev pub timeout_behind : ℕ → ℕ → ℕ
timeout_behind id sent = (2000 + id % 1000) * 2 ^ sent

-- sent once, and MAX_RETRANSMIT times again
abbrev pub most_sent : ℕ
most_sent = 5

abbrev pub is_due : ℕ → PendingContent → Bool
is_due now request = nat_le request.due now

-- ---- what is done with a request that is due
-- the request with its message ID, sent for the first time
abbrev pub sent_first : ℕ → PendingContent → ℕ → PendingContent
sent_first now request id = record request {
  bytes = with_message_id id request.bytes;
  id = id;
  sent = 1;
  due = now + timeout_behind id 0;
}

abbrev pub sent_again : ℕ → PendingContent → PendingContent
sent_again now request =
    record request { sent = request.sent + 1; due = now + timeout_behind request.id request.sent }

-- where no message ID is free, it is looked for again in a second
abbrev pub postponed : ℕ → PendingContent → PendingContent
postponed now request = record request { due = now + 1000 }

-- what a step gives
pub data StepContent : Type 0 where
  -- the bytes are to be sent to the address, and were sent before, or were not
  Sends : Addr → List ℕ → Bool → StepContent
  -- the request was not answered, and waits no more
  TimedOut : Purpose → StepContent
  -- no message ID is free for it
  Postponed : StepContent

abbrev pub step_content : Step → StepContent
step_content (steps.Send to bytes again) = Sends to bytes.items again
step_content (steps.TimedOut purpose) = TimedOut purpose
step_content steps.Postponed = Postponed

-- a step, the request behind it, if it waits on, and the message IDs that are left
pub record Stepped : Type 0 where
  pub step : StepContent
  pub request : Option PendingContent
  pub counters : List IdCounter

abbrev pub first_step : Moment → List IdCounter → PendingContent → Option ℕ → Stepped
first_step now counters request None =
    record { step = Postponed; request = Some (postponed (ms_of now) request); counters = counters }
first_step now counters request (Some id) = record {
  step = Sends request.to (with_message_id id request.bytes) false;
  request = Some (sent_first (ms_of now) request id);
  counters = counters_after counters now request.to;
}

-- a request that may be sent
abbrev pub sent_step : Moment → List IdCounter → PendingContent → Stepped
sent_step now counters request =
    if request.sent == 0 then first_step now counters request (allotted_to counters now request.to)
    else record { step = Sends request.to request.bytes true; request = Some (sent_again (ms_of now) request); counters = counters }

abbrev pub stepped : Moment → List IdCounter → PendingContent → Stepped
stepped now counters request =
    if nat_lt request.sent most_sent then sent_step now counters request
    else record { step = TimedOut request.purpose; request = None; counters = counters }

-- the place of the first that is due
abbrev pub place_due : Moment → List PendingContent → Option ℕ
place_due now requests = position (is_due (ms_of now)) requests

-- the request at the place stands as it is now, or waits no more
abbrev pub with_place : List PendingContent → ℕ → Option PendingContent → List PendingContent
with_place requests place (Some request) = slice_set requests place request
with_place requests place None = remove requests place

-- A step is made with the first request that is due, if one is.
abbrev pub IsSteppedWith : Moment → List PendingContent → List IdCounter → ℕ → Option PendingContent
    → Option StepContent → List PendingContent → List IdCounter → Type 0
IsSteppedWith now requests counters place None step new after = ⊥
IsSteppedWith now requests counters place (Some request) step new after =
    (step ≡ Some (stepped now counters request).step)
    × ((new ≡ with_place requests place (stepped now counters request).request)
    × (after ≡ (stepped now counters request).counters))

abbrev pub IsSteppedAt : Moment → List PendingContent → List IdCounter → Option ℕ → Option StepContent
    → List PendingContent → List IdCounter → Type 0
IsSteppedAt now requests counters None step new after = (step ≡ None) × ((new ≡ requests) × (after ≡ counters))
IsSteppedAt now requests counters (Some place) step new after =
    IsSteppedWith now requests counters place (slice_get requests place) step new after

abbrev pub IsStepped : Moment → List PendingContent → List IdCounter → Option StepContent → List PendingContent
    → List IdCounter → Type 0
IsStepped now requests counters = IsSteppedAt now requests counters (place_due now requests)

-- ---- what answers a request
-- the version is 1, and the type is the one of this number (section 3)
abbrev pub has_type : ℕ → List ℕ → Bool
has_type number [] = false
has_type number (first ∷ rest) = (first / 64 == 1) && (first / 16 % 4 == number)

abbrev pub has_header : List ℕ → Bool
has_header bytes = nat_le 4 (length bytes)

-- an acknowledgement, which may bring a response, and a Reset, which is empty (sections 4.2 and 4.3)
abbrev pub is_acknowledgement : List ℕ → Bool
is_acknowledgement bytes = has_header bytes && has_type 2 bytes

abbrev pub is_reset : List ℕ → Bool
is_reset bytes = (length bytes == 4) && has_type 3 bytes

-- a confirmable or non-confirmable response: the class of its code is from 2 to 5 (section 5.2)
abbrev pub has_response_code : List ℕ → Bool
has_response_code bytes = nat_le 64 (slice_index bytes 1) && nat_lt (slice_index bytes 1) 192

abbrev pub is_separate : List ℕ → Bool
is_separate bytes = has_header bytes && ((has_type 0 bytes || has_type 1 bytes) && has_response_code bytes)

-- the token stands behind the header, and its length in the first byte
abbrev pub token_in : List ℕ → List ℕ
token_in bytes = take (slice_index bytes 0 % 16) (drop 4 bytes)

-- The message ID tells what is acknowledged or reset. A separate response, which has the token, tells that the request
-- has come, also where its acknowledgement was lost (section 5.2.2).
abbrev pub is_told : PendingContent → List ℕ → Bool
is_told request bytes =
    ((is_acknowledgement bytes || is_reset bytes) && (message_id bytes == request.id))
    || (is_separate bytes && bytes_eq (token_in bytes) (token_in request.bytes))

abbrev pub is_answered : Addr → List ℕ → PendingContent → Bool
is_answered from bytes request = same_addr request.to from && (nat_lt 0 request.sent && is_told request bytes)

abbrev pub place_answered : Addr → List ℕ → List PendingContent → Option ℕ
place_answered from bytes requests = position (is_answered from bytes) requests

abbrev pub matched_of : List ℕ → Option PendingContent → Matched
matched_of bytes None = Nothing
matched_of bytes (Some request) = if is_reset bytes then Reset request.purpose else Acknowledged request.purpose

abbrev pub matched_at : List ℕ → List PendingContent → Option ℕ → Matched
matched_at bytes requests None = Nothing
matched_at bytes requests (Some place) = matched_of bytes (slice_get requests place)

-- what the datagram from the address answers
abbrev pub matched : List PendingContent → Addr → List ℕ → Matched
matched requests from bytes = matched_at bytes requests (place_answered from bytes requests)

abbrev pub without_place : List PendingContent → Option ℕ → List PendingContent
without_place requests None = requests
without_place requests (Some place) = remove requests place

-- what waits then
abbrev pub after_match : List PendingContent → Addr → List ℕ → List PendingContent
after_match requests from bytes = without_place requests (place_answered from bytes requests)

-- ---- what is put to them, and what goes
abbrev pub with_request : List PendingContent → Moment → Addr → Purpose → List ℕ → List PendingContent
with_request requests now to purpose bytes =
    requests ++ record { to = to; purpose = purpose; bytes = bytes; id = 0; sent = 0; due = ms_of now } ∷ []

-- two requests are for the same
abbrev pub same_purpose : Purpose → Purpose → Bool
same_purpose (Observation a) (Observation b) = (stamps.ghosts).eq a b
same_purpose (Cancellation a) (Cancellation b) = (stamps.ghosts).eq a b
same_purpose (Rest a) (Rest b) = a == b
same_purpose _ _ = false

abbrev pub has_other_purpose : Purpose → PendingContent → Bool
has_other_purpose purpose request = not (same_purpose request.purpose purpose)

abbrev pub without_purpose : List PendingContent → Purpose → List PendingContent
without_purpose requests purpose = filter (has_other_purpose purpose) requests
