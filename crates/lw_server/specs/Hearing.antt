-- What becomes of a datagram before the store takes it: what answers a request of the server's own (RFC 7252, sections
-- 4.2 and 5.3.2), and blocks of notifications (RFC 7959, section 2.6), go no further.
use Rattle.std.specs.Prelude.{◌≡◌, ℕ, ◌/◌, ◌%◌, ◌==◌, ◌⊎◌, Bool, true, false, List, [], ◌∷◌, ◌++◌, Option, None, Some}
use Rattle.std.specs.declared.alloc.Global.{Global}
use Rattle.std.specs.declared.vec.Vec.{Vec}
use Rattle.lw_stamp.specs.declared.moment.Moment.{Moment}
use Rattle.lw_stamp.specs.declared.stamp.Stamp.{Stamp}
use Rattle.lw_stamp.specs.Moment.{ms_of}
use Rattle.lw_reg.specs.declared.addr.Addr.{Addr}
use Rattle.lw_reg.specs.Registration.{Registration}
use Rattle.lw_reg.specs.declared.watch.Watch.{Watch}
use Rattle.lw_reg.specs.Reading.{shown_in}
use Rattle.lw_node.specs.Node.{NodeContent}
use Rattle.lw_table.specs.LookUps.{ByToken}
use Rattle.lw_udp.specs.declared.datagram.Datagram.{Datagram}
use Rattle.lw_messaging.specs.declared.parcel.Parcel.{Parcel}
use Rattle.lw_messaging.specs.declared.parcel.Parcel.TheVariants as parcels
use Rattle.lw_messaging.specs.declared.outgoing_requests.Matched.{Matched}
use Rattle.lw_messaging.specs.declared.outgoing_requests.Matched.TheVariants.{Nothing, Acknowledged, Reset}
use Rattle.lw_messaging.specs.declared.pending_request.Purpose.TheVariants.{Rest}
use Rattle.lw_messaging.specs.FetchMessages.{IsTokenInBlocks}
use Rattle.lw_messaging.specs.Fetches.{IsTaken}
use Rattle.lw_messaging.specs.Header.{is_request}
use Rattle.lw_messaging.specs.PendingRequest.{after_match, matched, with_request, without_purpose, PendingContent}
use Rattle.lw_metrics.specs.Counting.{one_more}
use Rattle.lw_server.specs.declared.devices.RequestCounts.{RequestCounts}
use Rattle.lw_server.specs.declared.hearing.Passage.{Passage}
use Rattle.lw_server.specs.declared.hearing.Passage.TheVariants as passages
use Rattle.lw_server.specs.Api.{serves}
use Rattle.lw_server.specs.Devices.{DevicesContent, TaskContent, Cut, Tell, left_of}
use Rattle.lw_server.specs.Server.{ServerContent}

-- ---- the watch that a notification in blocks is of
-- of what is shown, the live one with the token
abbrev pub IsWatchAt : NodeContent → Moment → Stamp → Option Watch → Type 0
IsWatchAt node now token None = ByToken (shown_in node.table.state) (ms_of now) token None
IsWatchAt node now token (Some watch) =
    (shown : Registration) × ByToken (shown_in node.table.state) (ms_of now) token (Some (shown, watch))

-- there is none while the server is unavailable
abbrev pub IsWatchWhere : Bool → ServerContent → Stamp → Option Watch → Type 0
IsWatchWhere true server token watch = IsWatchAt server.replica.node server.latest token watch
IsWatchWhere false server token watch = watch ≡ None

abbrev pub IsWatchOf : ServerContent → Option Stamp → Option Watch → Type 0
IsWatchOf server None watch = watch ≡ None
IsWatchOf server (Some token) watch = IsWatchWhere (serves server) server token watch

abbrev pub IsWatchIn : ServerContent → List ℕ → Option Watch → Type 0
IsWatchIn server bytes watch = (token : Option Stamp) × (IsTokenInBlocks bytes token × IsWatchOf server token watch)

-- ---- what answers a request
-- what a Reset leaves to do: the code of an empty message is 0.00 (section 4.1)
abbrev pub left_by : Matched → List TaskContent
left_by (Reset purpose) = left_of purpose 0
left_by (Acknowledged purpose) = []
left_by Nothing = []

abbrev pub counts_matched : Matched → RequestCounts → RequestCounts
counts_matched (Reset purpose) counts = record counts { reset = one_more counts.reset }
counts_matched (Acknowledged purpose) counts = counts
counts_matched Nothing counts = counts

-- ---- blocks
abbrev pub counts_block : Parcel → RequestCounts → RequestCounts
counts_block parcels.Through counts = counts
counts_block (parcels.Taken acknowledgement request fetch) counts = record counts { blocks = one_more counts.blocks }
counts_block (parcels.Whole acknowledgement message is_complete) counts =
    record counts { blocks = one_more counts.blocks }

-- The next block is asked for, in place of the one before. Where as many requests wait as can, or there is no memory for
-- one more, what has come of the fetch is to be told.
abbrev pub AsksRest : Moment → Addr → ℕ → List ℕ → List PendingContent → List TaskContent → List PendingContent
    → List TaskContent → Type 0
AsksRest now to fetch request waiting tasks new left =
    ((new ≡ with_request (without_purpose waiting (Rest fetch)) now to (Rest fetch) request) × (left ≡ tasks))
    ⊎ ((new ≡ without_purpose waiting (Rest fetch)) × (left ≡ tasks ++ Cut fetch ∷ []))

-- a message is confirmable where its type is 0 (RFC 7252, section 3)
abbrev pub is_confirmable : List ℕ → Bool
is_confirmable [] = false
is_confirmable (first ∷ rest) = first / 16 % 4 == 0

-- A whole message that is confirmable goes on to the store, which acknowledges it. Another one is told later.
abbrev pub WholePasses : Bool → Option (Vec ℕ Global) → Vec ℕ Global → Bool → List TaskContent → Passage
    → List TaskContent → Type 0
WholePasses true acknowledgement message is_complete tasks passage left =
    (passage ≡ passages.Whole message) × (left ≡ tasks)
WholePasses false acknowledgement message is_complete tasks passage left =
    (passage ≡ passages.Held acknowledgement) × (left ≡ tasks ++ Tell message.items is_complete ∷ [])

-- what becomes of a datagram that was one of these, of the requests that wait, and of what is left to do
abbrev pub Passes : Moment → Addr → Parcel → List PendingContent → List TaskContent → Passage → List PendingContent
    → List TaskContent → Type 0
Passes now from parcels.Through waiting tasks passage new left =
    (passage ≡ passages.Through) × ((new ≡ waiting) × (left ≡ tasks))
Passes now from (parcels.Taken acknowledgement request fetch) waiting tasks passage new left =
    (passage ≡ passages.Held acknowledgement) × AsksRest now from fetch request.items waiting tasks new left
Passes now from (parcels.Whole acknowledgement message is_complete) waiting tasks passage new left =
    (new ≡ waiting) × WholePasses (is_confirmable message.items) acknowledgement message is_complete tasks passage left

-- ---- a datagram that is no request
pub record IsPassed (now : Moment) (from : Addr) (watch : Option Watch) (bytes : List ℕ) (old : DevicesContent)
    (passage : Passage) (new : DevicesContent) : Type 0 where
  pub parcel : Parcel
  pub taken : IsTaken old.fetches (ms_of now) from watch bytes parcel new.fetches
  pub passes : Passes now from parcel (after_match old.requests from bytes)
      (old.tasks ++ left_by (matched old.requests from bytes)) passage new.requests new.tasks
  pub counts : new.counts ≡ counts_block parcel (counts_matched (matched old.requests from bytes) old.counts)

pub record IsHeardFrom (from : Addr) (bytes : List ℕ) (old : ServerContent) (passage : Passage) (new : ServerContent)
    : Type 0 where
  pub watch : Option Watch
  pub found : IsWatchIn old bytes watch
  pub passed : IsPassed old.steady from watch bytes old.devices passage new.devices
  pub rest : new ≡ record old { devices = new.devices }

-- ---- any datagram: a request goes on to the store
abbrev pub IsHeardAs : Bool → Datagram → ServerContent → Passage → ServerContent → Type 0
IsHeardAs true datagram old passage new = (passage ≡ passages.Through) × (new ≡ old)
IsHeardAs false datagram old passage new = IsHeardFrom datagram.from datagram.bytes old passage new

abbrev pub IsHeard : Datagram → ServerContent → Passage → ServerContent → Type 0
IsHeard datagram old passage new = IsHeardAs (is_request datagram.bytes) datagram old passage new
