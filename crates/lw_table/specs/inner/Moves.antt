-- Rows that are put into a table.
use Rattle.std.specs.Prelude.{◌≡◌, ◌≢◌, ◌⊎◌, ℕ, slice_get, Bool, true, false, List, Option, Some, None, String, bytes_eq, cond, IsSome}
use Rattle.std.specs.Option.{IsSomeAnd}
use Rattle.std.specs.BTreeMap.{BTreeMap, IsOrdered, get, get_by_text, is_at}
use Rattle.std.specs.Ordering.{nat_cmp}
use Rattle.std.specs.String.{string_cmp}
use Rattle.lw_stamp.specs.declared.moment.Moment.{Moment}
use Rattle.lw_stamp.specs.declared.stamp.Stamp.{Stamp}
use Rattle.lw_reg.specs.declared.slot.Slot.{Slot}
use Rattle.lw_reg.specs.Reading.{seen_of, stamp_of}
use Rattle.lw_reg.specs.Slot.{slot_below, slot_join, ending}
use Rattle.lw_table.specs.inner.Filed.{IsFiled, NumbersRow}
use Rattle.lw_table.specs.Table.{slot_of}
use Rattle.lw_table.specs.Rows.{IsRows, end_of, held_in}
use Rattle.lw_table.specs.inner.Rows.{row_at, spot_of}
use Rattle.lw_table.specs.inner.KeyChanges.{HasKeyChanges, joined_with}
use Rattle.lw_table.specs.declared.filed.Filed.{Filed}
use Rattle.lw_table.specs.declared.key.Key.{Key}
use Rattle.lw_table.specs.declared.row.Row.{Row}
use Rattle.lw_table.specs.declared.rows.Rows.{Rows}

abbrev pub moved_row : Row → Slot → ℕ → Row
moved_row row slot number = record { slot = slot_join row.slot slot; number = number }

-- the first row, or the row that moved
abbrev pub next_row : Option Row → Slot → ℕ → Row
next_row row slot number = record { slot = joined_with (slot_of row) slot; number = number }

-- the place is filed under the keys of a first row, which are these
pub record IsFirstFiled (filed : Filed) (e : List ℕ) (place : ℕ) (keys : List Key) : Type 0 where
  pub row : Row
  pub is : IsFiled filed e place (Some row)
  pub keys_are : HasKeyChanges None row.slot keys

-- the row is put under the endpoint, at its place or behind the others, and nothing else changes
pub record PutsRow (endpoint : List ℕ) (row : Row) (old new : Rows) : Type 0 where
  pub at : (e : List ℕ) → row_at new e ≡ cond (bytes_eq endpoint e) (Some row) (row_at old e)
  pub held_here : slice_get (held_in new) (spot_of old endpoint) ≡ Some row
  pub held_apart : (place : ℕ) → place ≢ spot_of old endpoint → slice_get (held_in new) place ≡ slice_get (held_in old) place
  pub rows : IsRows new

-- each endpoint has the row that it had
pub record SameRows (old new : Rows) : Type 0 where
  pub same : (e : List ℕ) → row_at new e ≡ row_at old e
  pub held : (place : ℕ) → slice_get (held_in new) place ≡ slice_get (held_in old) place
  pub rows : IsRows new

-- the slot tells nothing new beside the row
abbrev pub IsKnown : Option Row → Slot → Type 0
IsKnown row slot = IsSomeAnd (slot_of row) (slot_below slot)

-- the slot moves the row; or it tells nothing new, and the row stays
abbrev pub JoinsRow : Bool → Slot → ℕ → Row → Row → Type 0
JoinsRow true slot number old new = (¬ slot_below slot old.slot) × (new ≡ moved_row old slot number)
JoinsRow false slot number old new = slot_below slot old.slot × (new ≡ old)

-- the endpoint is filed as the row is, and its place under the keys and the number
abbrev pub FilesRow : List ℕ → ℕ → Option Row → Filed → Filed → Type 0
FilesRow e place row old new = IsFiled new e place row × NumbersRow place row old.numbers new.numbers

-- the slot moves the endpoint's row, or makes its first; or it tells nothing new, and each row stays
abbrev pub JoinsRowAt : Bool → List ℕ → Slot → ℕ → Rows → Rows → Filed → Filed → Type 0
JoinsRowAt true e slot number old new was filed = (¬ IsKnown (row_at old e) slot) × PutsRow e (next_row (row_at old e) slot number) old new × FilesRow e (spot_of old e) (Some (next_row (row_at old e) slot number)) was filed
JoinsRowAt false e slot number old new was filed = IsKnown (row_at old e) slot × SameRows old new × FilesRow e (spot_of old e) (row_at old e) was filed

-- the place is filed under the end of the endpoint, where none was
pub record FilesFirst (endpoint : List ℕ) (place : ℕ) (old new : BTreeMap ℕ ℕ) : Type 0 where
  pub free : get nat_cmp old (end_of endpoint) ≡ None
  pub at : (end : ℕ) → get nat_cmp new end ≡ cond (is_at (nat_cmp (end_of endpoint)) end) (Some place) (get nat_cmp old end)

-- the place is filed under the endpoint
pub record FilesOther {Z : Type 0} (endpoint : List ℕ) (place : ℕ) (old new : BTreeMap (String Z) ℕ) : Type 0 where
  pub at : (e : List ℕ) → get_by_text new e ≡ cond (bytes_eq endpoint e) (Some place) (get_by_text old e)

-- the place is filed in one of both ways
abbrev pub FilesEither : List ℕ → ℕ → Rows → Rows → Type 0
FilesEither endpoint place old new = (FilesFirst endpoint place old.firsts new.firsts × (new.others ≡ old.others)) ⊎ (FilesOther endpoint place old.others new.others × (new.firsts ≡ old.firsts))

pub record FilesPlace (endpoint : List ℕ) (place : ℕ) (old new : Rows) : Type 0 where
  pub firsts_rise : IsOrdered nat_cmp new.firsts
  pub others_rise : IsOrdered string_cmp new.others
  pub filed : FilesEither endpoint place old new

-- the row as its registration ends, as it was last seen
pub record LiftsRow (number : ℕ) (id : Stamp) (old new : Row) : Type 0 where
  pub id_is : stamp_of old.slot ≡ id
  pub seen : Stamp × Moment
  pub seen_is : seen_of old.slot ≡ Some seen
  pub moved : new ≡ moved_row old (ending id seen.0) number

-- that of the endpoint does, and nothing else changes
pub record LiftsRowAt (endpoint : List ℕ) (number : ℕ) (id : Stamp) (old new : Rows) : Type 0 where
  pub was : Row
  pub is : row_at old endpoint ≡ Some was
  pub row : Row
  pub lifted : LiftsRow number id was row
  pub put : PutsRow endpoint row old new

-- there is a row, and its registration was seen
abbrev pub WasSeen : Option Row → Type 0
WasSeen row = IsSomeAnd row (λ x. IsSome (seen_of x.slot))
