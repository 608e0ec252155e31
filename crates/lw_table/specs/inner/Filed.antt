-- What is filed of one endpoint, and of the place of its row.
use Rattle.std.specs.Prelude.{◌≡◌, ◌≢◌, ◌↔◌, ◌⊎◌, ℕ, true, List, Contains, Option, Some}
use Rattle.lw_due.specs.Due.{kept_of}
use Rattle.lw_index.specs.Places.{IsPlaceOf}
use Rattle.lw_recent.specs.Recent.{IsUnder}
use Rattle.lw_reg.specs.declared.slot.Slot.{Slot}
use Rattle.lw_table.specs.Due.{OptionHasDue}
use Rattle.lw_table.specs.inner.Due.{OtherDue}
use Rattle.lw_table.specs.Keys.{OptionHasKey}
use Rattle.lw_table.specs.Table.{IsKept, slot_of, number_of}
use Rattle.lw_table.specs.declared.filed.Filed.{Filed}
use Rattle.lw_table.specs.declared.key.Key.{Key}
use Rattle.lw_table.specs.declared.row.Row.{Row}

-- the place is filed under this number alone, or under none
abbrev pub HasNumber : List (ℕ × ℕ) → ℕ → Option ℕ → Type 0
HasNumber numbers place number = (n : ℕ) → IsUnder numbers n place ↔ (number ≡ Some n)

-- the place is filed under the keys of the slot, and no others
abbrev pub HasKeys : List (Key × ℕ) → ℕ → Option Slot → Type 0
HasKeys keys place slot = (k : Key) → IsPlaceOf keys k place ↔ OptionHasKey slot k

-- the endpoint is due by the deadline of its row, and kept where that is
pub record IsDueAs (filed : Filed) (e : List ℕ) (row : Option Row) : Type 0 where
  pub kept : (kept_of e filed.due ≡ Some true) ↔ IsKept (slot_of row)
  pub due : OptionHasDue filed.due e (slot_of row)

-- the place is filed under the keys of the row, and no others; the endpoint is due by its deadline, and kept where that is
pub record IsFiled (filed : Filed) (e : List ℕ) (place : ℕ) (row : Option Row) : Type 0 where
  pub kept : (kept_of e filed.due ≡ Some true) ↔ IsKept (slot_of row)
  pub keys : HasKeys filed.keys place (slot_of row)
  pub due : OptionHasDue filed.due e (slot_of row)

-- the place is filed under the keys of the row, and maybe under more of these, and the endpoint may be kept
pub record IsOver (filed : Filed) (e : List ℕ) (place : ℕ) (row : Option Row) (keys : List Key) : Type 0 where
  pub kept : IsKept (slot_of row) → kept_of e filed.due ≡ Some true
  pub keys_has : (k : Key) → OptionHasKey (slot_of row) k → IsPlaceOf filed.keys k place
  pub keys_from : (k : Key) → IsPlaceOf filed.keys k place → OptionHasKey (slot_of row) k ⊎ Contains keys k
  pub due : OptionHasDue filed.due e (slot_of row)

-- of each place but one the keys are the same
pub record OtherKeys {K : Type 0} (place : ℕ) (old new : List (K × ℕ)) : Type 0 where
  pub same : (k : K) (p : ℕ) → p ≢ place → IsPlaceOf new k p ↔ IsPlaceOf old k p

-- of each place but one the number is the same
pub record OtherNumbers (place : ℕ) (old new : List (ℕ × ℕ)) : Type 0 where
  pub same : (n p : ℕ) → p ≢ place → IsUnder new n p ↔ IsUnder old n p

-- of each other endpoint the due moment is the same, and of each other place the keys are
pub record OthersSame (old new : Filed) (endpoint : List ℕ) (place : ℕ) : Type 0 where
  pub due : OtherDue endpoint old.due new.due
  pub keys : OtherKeys place old.keys new.keys

-- the place has the number of the row, and of each other place the number is the same
pub record NumbersRow (place : ℕ) (row : Option Row) (old new : List (ℕ × ℕ)) : Type 0 where
  pub here : HasNumber new place (number_of row)
  pub others : OtherNumbers place old new

-- the place keeps what it was filed under, and has come to no more than the keys
pub record IsBetween (old new : List (Key × ℕ)) (place : ℕ) (keys : List Key) : Type 0 where
  pub stay : (k : Key) → IsPlaceOf old k place → IsPlaceOf new k place
  pub from : (k : Key) → IsPlaceOf new k place → IsPlaceOf old k place ⊎ Contains keys k

-- the place is filed under all of these
abbrev pub HasAll : List (Key × ℕ) → ℕ → List Key → Type 0
HasAll filed place keys = (k : Key) → Contains keys k → IsPlaceOf filed k place
