-- What devices told of observations (RFC 7641, section 3), numbered from 0 in the order in which it came.
use Rattle.std.specs.Prelude.{◌<◌, ◌≤◌, ℕ, ◌+◌, ◌-◌, ◌^◌, Bool, nat_lt, if◌then◌else◌, min, List, [], ◌∷◌, ◌++◌, length, drop}
use Rattle.lw_call.specs.Contents.{NoticeContent}

-- what a device told, and whether its payload is whole
pub record BufferedNotificationContent : Type 0 where
  pub notice : NoticeContent
  pub is_complete : Bool

-- the number of the first that is kept, all from it on in order, and for how many there is memory
pub record NotificationBufferContent : Type 0 where
  pub first : ℕ
  pub list : List BufferedNotificationContent
  pub capacity : ℕ

-- so many are kept at most
abbrev pub most : ℕ
most = 10000

-- of so many the older half goes
abbrev pub half : ℕ
half = 5000

-- the number of the next
abbrev pub next_of : NotificationBufferContent → ℕ
next_of buffer = buffer.first + length buffer.list

-- those that stay before one more is put behind them, and the number of the first of them
abbrev pub is_full : NotificationBufferContent → Bool
is_full buffer = nat_lt (most - 1) (length buffer.list)

abbrev pub first_kept : NotificationBufferContent → ℕ
first_kept buffer = if is_full buffer then buffer.first + half else buffer.first

abbrev pub kept : NotificationBufferContent → List BufferedNotificationContent
kept buffer = if is_full buffer then drop half buffer.list else buffer.list

-- one more behind them
abbrev pub with_notification : NotificationBufferContent → BufferedNotificationContent → NotificationBufferContent
with_notification buffer notification = record {
  first = first_kept buffer;
  list = kept buffer ++ notification ∷ [];
  capacity = buffer.capacity;
}

-- So many more can be put behind them: there is memory for them, as far as they are kept, and a number for each.
pub record HasRoom (buffer : NotificationBufferContent) (more : ℕ) : Type 0 where
  pub memory : min (length buffer.list + more) most ≤ buffer.capacity
  pub numbers : next_of buffer + more < 2 ^ 64
