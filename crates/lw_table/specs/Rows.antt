-- Rows by their endpoints, and what they hold as functions of them.
use Rattle.std.specs.Prelude.{◌≡◌, ◌<◌, ℕ, ◌*◌, ◌-◌, ◌%◌, ◌^◌, Bool, false, cond, List, [], ◌∷◌, length, drop, map, slice_get, Option, None, Some, string_bytes, bit_or, bytes_eq}
use Rattle.std.specs.BTreeMap.{IsOrdered, get, get_by_text}
use Rattle.std.specs.FinMap.{FinMap, from_entries}
use Rattle.std.specs.Option.{IsSomeAnd}
use Rattle.std.specs.Ordering.{nat_cmp}
use Rattle.std.specs.String.{string_cmp}
use Rattle.lw_stamp.specs.TextOrder.{text_cmp}
use Rattle.lw_reg.specs.State.{State}
use Rattle.lw_table.specs.Changes.{Numbers}
use Rattle.lw_table.specs.Table.{TableContent}
use Rattle.lw_table.specs.declared.row.Row.{Row}
use Rattle.lw_table.specs.declared.rows.NamedRow.{NamedRow}
use Rattle.lw_table.specs.declared.rows.Rows.{Rows}

-- ---- by which a row is found
-- the number, and behind it the bytes, of which the last 64 bits stay
abbrev pub appended : ℕ → List ℕ → ℕ
appended end [] = end
appended end (b ∷ bs) = appended (bit_or (end * 2 ^ 8 % 2 ^ 64) b) bs

-- the last eight bytes as a number
abbrev pub end_of : List ℕ → ℕ
end_of e = appended 0 (drop (length e - 8) e)

abbrev pub name_of : NamedRow → List ℕ
name_of named = string_bytes named.endpoint

-- whether there is a row, and it is the endpoint's
abbrev pub is_named : Option NamedRow → List ℕ → Bool
is_named None e = false
is_named (Some named) e = bytes_eq (name_of named) e

-- the place of the first row with its end, where that row is the endpoint's, and else the other
abbrev pub first_or : List NamedRow → List ℕ → Option ℕ → Option ℕ → Option ℕ
first_or rows e None other = other
first_or rows e (Some place) other = cond (is_named (slice_get rows place) e) (Some place) other

-- the place of the endpoint's row
abbrev pub place_of : Rows → List ℕ → Option ℕ
place_of rows e = first_or rows.rows.items e (get nat_cmp rows.firsts (end_of e)) (get_by_text rows.others e)

-- Each row is found by its endpoint, and no place is filed that has no row. What is filed by its whole name has it.
pub record IsRows (rows : Rows) : Type 0 where
  pub firsts_rise : IsOrdered nat_cmp rows.firsts
  pub others_rise : IsOrdered string_cmp rows.others
  pub firsts_within : (end place : ℕ) → get nat_cmp rows.firsts end ≡ Some place → place < length rows.rows.items
  pub others_named : (e : List ℕ) (place : ℕ) → get_by_text rows.others e ≡ Some place → IsSomeAnd (slice_get rows.rows.items place) (λ named. name_of named ≡ e)
  pub found : (place : ℕ) (named : NamedRow) → slice_get rows.rows.items place ≡ Some named → place_of rows (name_of named) ≡ Some place

-- ---- what they hold
-- each row, by its place
abbrev pub held_in : Rows → List Row
held_in rows = map (λ named. named.row) rows.rows.items

-- under each endpoint what f gives of its row
abbrev pub each_in : {X : Type 0} → (Row → X) → Rows → FinMap text_cmp X
each_in f rows = from_entries (map (λ named. (name_of named, f named.row)) rows.rows.items)

abbrev pub state_in : Rows → State
state_in = each_in (λ row. row.slot)

abbrev pub numbers_in : Rows → Numbers
numbers_in = each_in (λ row. row.number)

abbrev pub table_in : Rows → ℕ → TableContent
table_in rows change = record { state = state_in rows; count = record { change = change; numbers = numbers_in rows } }
