-- What a node sends of its state, and what it is after a delta was merged (Shapiro et al., Conflict-free
-- Replicated Data Types, 2011).
use Rattle.std.specs.Prelude.{◌≡◌, ◌↔◌, ℕ, ◌<◌, ◌≤◌, max, List, [], ◌∷◌, length, take, Contains, Result, Ok, Err, Some, IsSomeAnd}
use Rattle.std.specs.FinMap.{empty, get}
use Rattle.lw_join.specs.Maps.{one_key}
use Rattle.lw_reg.specs.declared.slot.Slot.{Slot}
use Rattle.lw_reg.specs.Marks.{Mark}
use Rattle.lw_reg.specs.Reading.{shown_by}
use Rattle.lw_reg.specs.Slot.{slot_below}
use Rattle.lw_reg.specs.State.{State, state_below, state_join}
use Rattle.lw_table.specs.Changes.{Recounts, IsSince, IsSinceIn}
use Rattle.lw_delta.specs.Delta.{DeltaContent, IsSpelling, IsFault}
use Rattle.lw_delta.specs.Writing.{delta_bytes}
use Rattle.lw_call.specs.declared.merge_fault.MergeFault.{MergeFault}
use Rattle.lw_call.specs.declared.merge_fault.MergeFault.TheVariants.{Malformed, NoMemory}
use Rattle.lw_node.specs.Node.{NodeContent}

-- the state of the slots: the least above each, under its endpoint
abbrev pub state_in : List (List ℕ × Slot) → State
state_in [] = empty
state_in (s ∷ ss) = state_join (one_key s.0 s.1) (state_in ss)

-- ---- what is sent
-- the delta of the node's clock and of exactly the slots that moved after the change number
pub record IsDeltaSince (node : NodeContent) (since : ℕ) (bytes : List ℕ) : Type 0 where
  pub slots : List (List ℕ × Slot)
  pub are : IsSinceIn node.table.state node.table.count since slots
  pub written : bytes ≡ delta_bytes node.clock slots
  pub spelled : IsSpelling bytes (record { clock = node.clock; slots = slots })

-- ---- what is merged
-- The clock is the greater of both, the slots are joined to the node's, and each endpoint that moves takes the
-- next change number.
pub record Merged (old : NodeContent) (clock : ℕ) (slots : List (List ℕ × Slot)) (new : NodeContent) : Type 0 where
  pub number : new.number ≡ old.number
  pub clock_is : new.clock ≡ max old.clock clock
  pub state : new.table.state ≡ state_join old.table.state (state_in slots)
  pub count : Recounts old.table.state new.table.state old.table.count new.table.count

-- exactly the marks that the slots show
abbrev pub AreShown : List (List ℕ × Slot) → List Mark → Type 0
AreShown slots marks = (m : Mark) → Contains marks m ↔ ((e : List ℕ) × (slot : Slot) × Contains slots (e, slot) × shown_by e slot m)

-- the whole delta is merged
pub record MergesWhole (old : NodeContent) (bytes : List ℕ) (count : ℕ) (new : NodeContent) : Type 0 where
  pub delta : DeltaContent
  pub spelled : IsSpelling bytes delta
  pub counted : count ≡ length delta.slots
  pub merged : Merged old delta.clock delta.slots new

-- the first slots of the delta are merged, fewer than all
pub record MergesFront (old : NodeContent) (bytes : List ℕ) (joined : ℕ) (new : NodeContent) : Type 0 where
  pub delta : DeltaContent
  pub spelled : IsSpelling bytes delta
  pub fewer : joined < length delta.slots
  pub merged : Merged old delta.clock (take joined delta.slots) new

-- bytes that are no delta change nothing; the fault is the first
abbrev pub Merges : NodeContent → List ℕ → Result ℕ MergeFault → NodeContent → Type 0
Merges old bytes (Ok count) new = MergesWhole old bytes count new
Merges old bytes (Err (Malformed fault)) new = IsFault bytes fault × (new ≡ old)
Merges old bytes (Err (NoMemory joined)) new = MergesFront old bytes joined new

-- ---- the order of what nodes know: by the clock, and by the state
abbrev pub IsBelow : ℕ × State → ℕ × State → Type 0
IsBelow a b = (a.0 ≤ b.0) × state_below a.1 b.1

-- above both, and below all that is
pub record IsLeastOfBoth (a b c : ℕ × State) : Type 0 where
  pub above_first : IsBelow a c
  pub above_second : IsBelow b c
  pub least : (d : ℕ × State) → IsBelow a d → IsBelow b d → IsBelow c d

-- What merges leave goes by what they join alone: not by which came first, by how they are grouped, or by how often
-- one came.
abbrev pub LeastIsOne : Type 0
LeastIsOne = (a b c d : ℕ × State) → IsLeastOfBoth a b c → IsLeastOfBoth a b d → c ≡ d

abbrev pub LeastCommutes : Type 0
LeastCommutes = (a b c : ℕ × State) → IsLeastOfBoth a b c → IsLeastOfBoth b a c

abbrev pub LeastAssociates : Type 0
LeastAssociates =
    (a b c ab bc one other : ℕ × State) → IsLeastOfBoth a b ab → IsLeastOfBoth ab c one → IsLeastOfBoth b c bc → IsLeastOfBoth a bc other
    → one ≡ other

abbrev pub LeastRepeats : Type 0
LeastRepeats = (a b ab again : ℕ × State) → IsLeastOfBoth a b ab → IsLeastOfBoth ab b again → again ≡ ab

abbrev pub known_by : NodeContent → ℕ × State
known_by node = (node.clock, node.table.state)

abbrev pub known_from : DeltaContent → ℕ × State
known_from d = (d.clock, state_in d.slots)

-- ---- what a delta brings
-- A delta since a change number, joined to a state that has at least each slot of the sender that did not move
-- since, gives what the sender's whole state would.
abbrev pub DeltasBringTheRest : Type 0
DeltasBringTheRest =
    (node : NodeContent) (since : ℕ) (slots : List (List ℕ × Slot)) (state : State) → IsSinceIn node.table.state node.table.count since slots
    → ((e : List ℕ) (slot : Slot) → get node.table.state e ≡ Some slot → ¬ IsSince node.table.count since e → IsSomeAnd (get state e) (slot_below slot))
    → state_join state (state_in slots) ≡ state_join state node.table.state
