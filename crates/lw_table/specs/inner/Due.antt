-- What a step keeps of the due moments, and of those of other endpoints.
use Rattle.std.specs.Prelude.{◌≡◌, ◌≢◌, ◌≤◌, ◌-◌, ◌^◌, ℕ, List, Option, Some, None}
use Rattle.std.specs.Option.{unwrap_or}
use Rattle.lw_due.specs.Due.{Entry, due_of, note_of, kept_of, is_due, names_where}
use Rattle.lw_reg.specs.declared.slot.Slot.{Slot}
use Rattle.lw_reg.specs.Reading.{deadline_in}
use Rattle.lw_table.specs.Due.{OptionHasDue}

-- each endpoint is kept or not as before
abbrev pub KeepsKept : List Entry → List Entry → Type 0
KeepsKept old new = (e : List ℕ) → kept_of e new ≡ kept_of e old

-- an endpoint that has a due moment for its slot has one still
abbrev pub KeepsDue : (List ℕ → Option Slot) → List Entry → List Entry → Type 0
KeepsDue slots old new = (e : List ℕ) → OptionHasDue old e (slots e) → OptionHasDue new e (slots e)

-- of each endpoint but one the due moment is the same, and whether it is kept
pub record OtherDue (endpoint : List ℕ) (old new : List Entry) : Type 0 where
  pub same : (e : List ℕ) → e ≢ endpoint → note_of e new ≡ note_of e old

-- the endpoint has a due moment, and it is not after the deadline, if there is one
pub record IsDueBy (due : List Entry) (e : List ℕ) (deadline : Option ℕ) : Type 0 where
  pub at : ℕ
  pub is : due_of e due ≡ Some at
  pub by : (d : ℕ) → deadline ≡ Some d → at ≤ d

-- the endpoints whose due moment has come
abbrev pub due_in : ℕ → List Entry → List (List ℕ)
due_in now = names_where (is_due now)

-- the deadline of the slot, and the last moment of all where there is none
abbrev pub deadline_at : Option Slot → ℕ
deadline_at None = 2 ^ 64 - 1
deadline_at (Some slot) = unwrap_or (deadline_in slot) (2 ^ 64 - 1)
