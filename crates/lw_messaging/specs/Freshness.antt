-- Which notification of an observation is newer (RFC 7641, section 3.4).
use Rattle.std.specs.Prelude.{ℕ, ◌+◌, ◌-◌, ◌^◌, nat_lt, nat_le, Bool, true, not, ◌&&◌, ◌||◌, if◌then◌else◌, List, [], ◌∷◌, length, filter}
use Rattle.std.specs.Prelude.{Option, Some, None, is_some}
use Rattle.std.specs.Map.{lookup, remove_entry}
use Rattle.std.specs.BTreeMap.{insert_entry}
use Rattle.std.specs.Ordering.{is_eq}
use Rattle.lw_stamp.specs.declared.stamp.Stamp.{Stamp}
use Rattle.lw_stamp.specs.declared.moment.Moment.{Moment}
use Rattle.lw_stamp.specs.Moment.{ms_of}
use Rattle.lw_stamp.specs.StampOrder.{stamp_cmp}
use Rattle.lw_messaging.specs.declared.freshness.Newest.{Newest}

-- What is kept, by token, in the order of the tokens: the Observe number of the newest notification, and when it came.
abbrev pub Kept : Type 0
Kept = List (Stamp × Newest)

abbrev pub newest_of : Kept → Stamp → Option Newest
newest_of kept token = lookup (λ k. is_eq (stamp_cmp token k)) kept

-- The numbers are of 24 bits and begin again: one is newer where it is less than half a round ahead.
abbrev pub is_ahead : ℕ → ℕ → Bool
is_ahead known observe =
    (nat_lt known observe && nat_lt (observe - known) (2 ^ 23))
    || (nat_lt observe known && nat_lt (2 ^ 23) (known - observe))

-- 128 seconds are over since it came
abbrev pub is_old : Moment → Newest → Bool
is_old now newest = nat_lt (ms_of newest.at + 128000) (ms_of now)

abbrev pub is_newer_than : Option Newest → Moment → ℕ → Bool
is_newer_than None now observe = true
is_newer_than (Some newest) now observe = is_ahead newest.observe observe || is_old now newest

abbrev pub is_newer : Kept → Moment → Stamp → ℕ → Bool
is_newer kept now token observe = is_newer_than (newest_of kept token) now observe

-- ---- room for 65,536 tokens
abbrev pub has_room : Kept → Stamp → Bool
has_room kept token = is_some (newest_of kept token) || nat_lt (length kept) 65536

abbrev pub is_young : Moment → (Stamp × Newest) → Bool
is_young now entry = not (is_old now entry.1)

-- where there is no room, those that are old go
abbrev pub with_room : Kept → Moment → Stamp → Kept
with_room kept now token = if has_room kept token then kept else filter (is_young now) kept

abbrev pub put : Kept → Stamp → Newest → Kept
put kept token newest = if has_room kept token then insert_entry stamp_cmp kept token newest else kept

-- a notification is noted, where there is room then
abbrev pub noted : Kept → Moment → Stamp → ℕ → Kept
noted kept now token observe = put (with_room kept now token) token (record { observe = observe; at = now })

abbrev pub without : Kept → Stamp → Kept
without kept token = remove_entry (λ k. is_eq (stamp_cmp token k)) kept
