-- Message IDs of the server's own messages, none twice to one address within EXCHANGE_LIFETIME (RFC 7252, section 4.4).
use Rattle.std.specs.Prelude.{◌≡◌, ℕ, ◌+◌, ◌-◌, ◌*◌, ◌/◌, ◌%◌, ◌<◌, ◌≤◌, nat_lt, nat_le, Bool, if◌then◌else◌, List, [], ◌∷◌, ◌++◌}
use Rattle.std.specs.Prelude.{replicate, slice_get, slice_set, slice_index, Option, Some, None}
use Rattle.lw_stamp.specs.declared.moment.Moment.{Moment}
use Rattle.lw_stamp.specs.Moment.{ms_of}
use Rattle.lw_reg.specs.declared.addr.Addr.{Addr}
use Rattle.lw_reg.specs.declared.addr.Addr.TheVariants.{V4, V6}
use Rattle.lw_messaging.specs.declared.message_ids.IdCounter.{IdCounter}
use Rattle.lw_messaging.specs.Replies.{exchange_lifetime}

-- ---- a counter: a count of message IDs that some addresses share, which goes on in epochs of 32,768
abbrev pub last_byte : Addr → ℕ
last_byte (V4 address port) = slice_index address 3
last_byte (V6 address port) = slice_index address 15

abbrev pub port_of : Addr → ℕ
port_of (V4 address port) = port
port_of (V6 address port) = port

-- the counter of an address, of sixteen
abbrev pub counter_of : Addr → ℕ
counter_of to = (last_byte to + port_of to) % 16

-- a start in steps of 4 milliseconds, so that the next start does not begin where this one did
abbrev pub first_counter : Moment → IdCounter
first_counter start = record { next = ms_of start / 4 % 65536; left = 32768; began = start }

abbrev pub first_counters : Moment → List IdCounter
first_counters start = replicate 16 (first_counter start)

-- a new epoch begins later than EXCHANGE_LIFETIME after the last one began
abbrev pub begins : IdCounter → Moment → Bool
begins counter now = nat_lt (ms_of counter.began + exchange_lifetime) (ms_of now)

-- what a counter gives: its next message ID, where its epoch has more or a new one begins
abbrev pub allotted : IdCounter → Moment → Option ℕ
allotted counter now =
    if nat_lt 0 counter.left then Some counter.next else if begins counter now then Some counter.next else None

abbrev pub counted : ℕ → ℕ
counted id = (id + 1) % 65536

abbrev pub counter_after : IdCounter → Moment → IdCounter
counter_after counter now =
    if nat_lt 0 counter.left then record { next = counted counter.next; left = counter.left - 1; began = counter.began }
    else if begins counter now then record { next = counted counter.next; left = 32767; began = now }
    else counter

-- ---- all counters
abbrev pub allotted_by : Option IdCounter → Moment → Option ℕ
allotted_by None now = None
allotted_by (Some counter) now = allotted counter now

abbrev pub allotted_to : List IdCounter → Moment → Addr → Option ℕ
allotted_to counters now to = allotted_by (slice_get counters (counter_of to)) now

abbrev pub counters_with : List IdCounter → ℕ → Moment → Option IdCounter → List IdCounter
counters_with counters place now None = counters
counters_with counters place now (Some counter) = slice_set counters place (counter_after counter now)

abbrev pub counters_after : List IdCounter → Moment → Addr → List IdCounter
counters_after counters now to = counters_with counters (counter_of to) now (slice_get counters (counter_of to))

-- ---- a whole time of asking
-- when a message ID was asked for, and for which address
pub record Asked : Type 0 where
  pub now : Moment
  pub to : Addr

-- the counters of a server that started at the moment, once these were asked for, of which the last stands first
abbrev pub counters_since : Moment → List Asked → List IdCounter
counters_since start [] = first_counters start
counters_since start (asked ∷ earlier) = counters_after (counters_since start earlier) asked.now asked.to

-- what is given to the one that asks after these
abbrev pub given : Moment → List Asked → Asked → Option ℕ
given start earlier asked = allotted_to (counters_since start earlier) asked.now asked.to

abbrev pub last_of : Moment → List Asked → ℕ
last_of start [] = ms_of start
last_of start (asked ∷ earlier) = ms_of asked.now

-- no moment is before the start, or before the one before it
abbrev pub NeverFall : Moment → List Asked → Type 0
NeverFall start [] = Unit {0}
NeverFall start (asked ∷ earlier) = (last_of start earlier ≤ ms_of asked.now) × NeverFall start earlier

-- The address was given the message ID twice, and this much was asked for before and between.
pub record IsGivenTwice (start : Moment) (to : Addr) (id : ℕ) (first last : Moment) : Type 0 where
  pub earlier : List Asked
  pub between : List Asked
  pub first_given : given start earlier (record { now = first; to = to }) ≡ Some id
  pub last_given : given start (between ++ record { now = first; to = to } ∷ earlier) (record { now = last; to = to })
      ≡ Some id
  pub in_order : NeverFall start (record { now = last; to = to } ∷ between ++ record { now = first; to = to } ∷ earlier)

-- ---- the message ID of a message: its third and fourth byte, most significant first (RFC 7252, section 3)
abbrev pub with_message_id : ℕ → List ℕ → List ℕ
with_message_id id (first ∷ code ∷ high ∷ low ∷ rest) = first ∷ code ∷ (id / 256) ∷ (id % 256) ∷ rest
with_message_id id bytes = bytes
