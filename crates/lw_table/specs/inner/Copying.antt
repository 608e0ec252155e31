-- Rows that are copied one by one.
use Rattle.std.specs.Prelude.{◌≡◌, ◌↔◌, ◌⊎◌, ℕ, List, None, Some, slice_get, bytes_eq, cond}
use Rattle.lw_recent.specs.Recent.{IsUnder}
use Rattle.lw_table.specs.inner.Filed.{HasKeys, IsDueAs}
use Rattle.lw_table.specs.Table.{number_of, slot_of}
use Rattle.lw_table.specs.declared.key.Key.{Key}
use Rattle.lw_table.specs.Rows.{IsRows, held_in}
use Rattle.lw_table.specs.inner.Rows.{row_at}
use Rattle.lw_table.specs.declared.filed.Filed.{Filed}
use Rattle.lw_table.specs.declared.rows.Rows.{Rows}

-- the endpoint has the row that it has in the original, or none yet
abbrev pub MayBeCopied : List ℕ → Rows → Rows → Type 0
MayBeCopied endpoint original rows = (row_at rows endpoint ≡ row_at original endpoint) ⊎ (row_at rows endpoint ≡ None)

-- the endpoint has the row that it has in the original, and nothing else changes
pub record CopiesRow (endpoint : List ℕ) (original old new : Rows) : Type 0 where
  pub at : (e : List ℕ) → row_at new e ≡ cond (bytes_eq endpoint e) (row_at original endpoint) (row_at old e)
  pub rows : IsRows new

-- each place is filed under the number that its row holds
abbrev pub NumbersAll : List (ℕ × ℕ) → Rows → Type 0
NumbersAll numbers rows = (n place : ℕ) → IsUnder numbers n place ↔ (number_of (slice_get (held_in rows) place) ≡ Some n)

-- each place is filed under the keys of the slot that its row holds
abbrev pub KeysAll : List (Key × ℕ) → Rows → Type 0
KeysAll keys rows = (place : ℕ) → HasKeys keys place (slot_of (slice_get (held_in rows) place))

-- each endpoint has the row that it has in the original, and is filed as that is, and its place under what that has
pub record Copies (original : Rows) (filed : Filed) (rows : Rows) : Type 0 where
  pub same : (e : List ℕ) → row_at rows e ≡ row_at original e
  pub are_rows : IsRows rows
  pub each_due : (e : List ℕ) → IsDueAs filed e (row_at rows e)
  pub keyed : KeysAll filed.keys rows
  pub numbered : NumbersAll filed.numbers rows
