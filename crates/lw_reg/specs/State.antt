-- The state of a set of marks: the least map from endpoints to slots above the atoms of its marks (Shapiro
-- et al., Conflict-free Replicated Data Types, 2011).
use Rattle.std.specs.Prelude.{◌≡◌, List, [], ◌∷◌, Contains}
use Rattle.std.specs.FinMap.{FinMap, empty}
use Rattle.lw_stamp.specs.TextOrder.{text_cmp}
use Rattle.lw_join.specs.Least.{IsLeastAbove}
use Rattle.lw_join.specs.Maps.{map_below, map_join, one_key}
use Rattle.lw_reg.specs.declared.slot.Slot.{Slot}
use Rattle.lw_reg.specs.Marks.{Mark}
use Rattle.lw_reg.specs.Slot.{slot_below, slot_join, slot_at, told_by}

-- endpoints are ordered by their bytes
abbrev pub State : Type 0
State = FinMap text_cmp Slot

-- each endpoint of the left is in the right, and its slot is below
abbrev pub state_below : State → State → Type 0
state_below = map_below slot_below

abbrev pub state_join : State → State → State
state_join = map_join slot_join

-- the atom of a mark, under its endpoint
abbrev pub atom_of : Mark → State
atom_of m = one_key m.endpoint (slot_at m.registration (told_by m.trace))

-- the state is the least above the atoms of the marks
abbrev pub IsStateOf : List Mark → State → Type 0
IsStateOf ms = IsLeastAbove state_below (λ a. (m : Mark) × Contains ms m × (a ≡ atom_of m))

-- it is the join of the atoms
abbrev pub state_of : List Mark → State
state_of [] = empty
state_of (m ∷ ms) = state_join (atom_of m) (state_of ms)
