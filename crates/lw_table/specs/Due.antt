-- The due moments of endpoints, beside the deadlines of their slots.
use Rattle.std.specs.Prelude.{◌≡◌, ◌≤◌, ℕ, List, Option, Some, None}
use Rattle.lw_due.specs.Due.{Entry, due_of}
use Rattle.lw_reg.specs.declared.slot.Slot.{Slot}
use Rattle.lw_reg.specs.Reading.{deadline_in}

-- the endpoint has a due moment, and it is not after the deadline of the slot
pub record HasDue (due : List Entry) (e : List ℕ) (slot : Slot) : Type 0 where
  pub at : ℕ
  pub is : due_of e due ≡ Some at
  pub by : (d : ℕ) → deadline_in slot ≡ Some d → at ≤ d

-- without a slot it may have any, or none
abbrev pub OptionHasDue : List Entry → List ℕ → Option Slot → Type 0
OptionHasDue due e None = Unit {0}
OptionHasDue due e (Some slot) = HasDue due e slot
