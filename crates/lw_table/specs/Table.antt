-- What contracts see of a table: the state of all that is known, and the change numbers.
use Rattle.std.specs.Prelude.{◌≡◌, ◌<◌, ◌≤◌, ◌↔◌, ℕ, List, true, Option, Some, None, IsSome, refl, slice_get}
use Rattle.std.specs.Coded.{Coded, coded×, coded_ℕ, coded_list, code_by}
use Rattle.std.specs.FinMap.{empty, get, code}
use Rattle.lw_due.specs.Due.{Entry, kept_of}
use Rattle.lw_index.specs.Places.{IsPlaceOf}
use Rattle.lw_recent.specs.Recent.{IsUnder}
use Rattle.lw_reg.specs.Endpoint.{IsEndpoint}
use Rattle.lw_reg.specs.Reading.{IsRemoved}
use Rattle.lw_reg.specs.declared.slot.Slot.{Slot}
use Rattle.lw_reg.specs.contracts.slot.Slot as slots
use Rattle.lw_reg.specs.State.{State}
use Rattle.lw_table.specs.Changes.{Count, Numbers, LAST}
use Rattle.lw_table.specs.Due.{OptionHasDue}
use Rattle.lw_table.specs.Keys.{OptionHasKey}
use Rattle.lw_table.specs.declared.key.Key.{Key}
use Rattle.lw_table.specs.declared.row.Row.{Row}

pub record TableContent : Type 0 where
  pub state : State
  pub count : Count

abbrev pub none_counted : Count
none_counted = record { change = 0; numbers = empty }

-- nothing is known
abbrev pub empty_table : TableContent
empty_table = record { state = empty; count = none_counted }

-- by which a proof tells states apart
abbrev pub state_code : Coded State
state_code = code (coded_list coded_ℕ) (slots.the_row).coded

abbrev pub numbers_code : Coded Numbers
numbers_code = code (coded_list coded_ℕ) coded_ℕ

abbrev pub table_code : Coded TableContent
table_code =
    code_by (State × (ℕ × Numbers)) (coded× state_code (coded× coded_ℕ numbers_code))
    (λ t. (t.state, (t.count.change, t.count.numbers)))
    (λ p. record { state = p.0; count = record { change = p.1.0; numbers = p.1.1 } })
    (λ _. refl)

-- the slot of a row
abbrev pub slot_of : Option Row → Option Slot
slot_of None = None
slot_of (Some row) = Some row.slot

-- the number of a row
abbrev pub number_of : Option Row → Option ℕ
number_of None = None
number_of (Some row) = Some row.number

-- the registration was not removed
abbrev pub IsKept : Option Slot → Type 0
IsKept None = ⊥
IsKept (Some slot) = ¬ IsRemoved slot

-- What is filed beside the slots. The endpoints whose registration was not removed are kept among the due moments; each
-- place is filed under the keys of the slot that its row holds, and under its number; each endpoint has a change number
-- where it has a slot, alone below the last, and a due moment that is not after the deadline of that.
pub record IsTable (keys : List (Key × ℕ)) (numbers : List (ℕ × ℕ)) (due : List Entry) (held : List Row) (t : TableContent) : Type 0 where
  pub kept_are : (e : List ℕ) → (kept_of e due ≡ Some true) ↔ IsKept (get t.state e)
  pub keys_are : (k : Key) (place : ℕ) → IsPlaceOf keys k place ↔ OptionHasKey (slot_of (slice_get held place)) k
  pub numbers_are : (n place : ℕ) → IsUnder numbers n place ↔ (number_of (slice_get held place) ≡ Some n)
  pub due_below : (e : List ℕ) → OptionHasDue due e (get t.state e)
  pub numbered : (e : List ℕ) → IsSome (get t.state e) ↔ IsSome (get t.count.numbers e)
  pub within : (n : ℕ) (e : List ℕ) → get t.count.numbers e ≡ Some n → n ≤ t.count.change
  pub alone : (n : ℕ) (d e : List ℕ) → n < LAST → get t.count.numbers d ≡ Some n → get t.count.numbers e ≡ Some n → d ≡ e
  pub last : t.count.change ≤ LAST
  pub endpoints : (e : List ℕ) → IsSome (get t.state e) → IsEndpoint e
