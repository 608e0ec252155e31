-- The slots of endpoints, and the endpoints of places.
use Rattle.std.specs.Prelude.{◌↔◌, ℕ, List, [], ◌∷◌, Contains, Option, Some, None}
use Rattle.lw_recent.specs.Recent.{IsAbove, IsUnder}
use Rattle.lw_table.specs.inner.Rows.{IsNamed}
use Rattle.lw_table.specs.declared.rows.NamedRow.{NamedRow}
use Rattle.std.specs.FinMap.{get}
use Rattle.lw_reg.specs.declared.slot.Slot.{Slot}
use Rattle.lw_reg.specs.State.{State}

abbrev pub slot_or : List ℕ → Option Slot → List (List ℕ × Slot) → List (List ℕ × Slot)
slot_or e None rest = rest
slot_or e (Some slot) rest = (e, slot) ∷ rest

-- the slots of the endpoints that have one
abbrev pub slots_at : State → List (List ℕ) → List (List ℕ × Slot)
slots_at state [] = []
slots_at state (e ∷ es) = slot_or e (get state e) (slots_at state es)

-- the place of a row with the endpoint is filed under a number above the given one, or under any
abbrev pub IsNamedSince : Option ℕ → List (ℕ × ℕ) → List NamedRow → List ℕ → Type 0
IsNamedSince since numbers rows e = (n : ℕ) × (place : ℕ) × IsUnder numbers n place × IsAbove since n × IsNamed rows place e

-- these are the endpoints of which that is so
abbrev pub AreNamedSince : Option ℕ → List (ℕ × ℕ) → List NamedRow → List (List ℕ) → Type 0
AreNamedSince since numbers rows endpoints = (e : List ℕ) → Contains endpoints e ↔ IsNamedSince since numbers rows e
