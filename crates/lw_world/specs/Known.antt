-- What a node of a run knows: the operations that it issued, and those that deltas brought (Shapiro et al.,
-- Conflict-free Replicated Data Types, 2011). A program keeps none of it.
use Rattle.std.specs.Prelude.{◌≡◌, ℕ, ◌+◌, List, [], ◌∷◌, ◌++◌, Option, Some, None, Bool, map, filter, max}
use Rattle.std.specs.List.{list_any}
use Rattle.std.specs.Ordering.{eq_by_cmp}
use Rattle.lw_stamp.specs.TextOrder.{text_cmp}
use Rattle.lw_reg.specs.declared.op.Op.{Op}
use Rattle.lw_reg.specs.declared.slot.Slot.{Slot}
use Rattle.lw_reg.specs.Marks.{all_marks}
use Rattle.lw_reg.specs.State.{State, state_of}
use Rattle.lw_table.specs.Changes.{Count, Recounts}
use Rattle.lw_table.specs.Table.{none_counted}
use Rattle.lw_delta.specs.Delta.{DeltaContent}
use Rattle.lw_node.specs.Node.{NodeContent}

-- what a node knows: its number, its clock, the operations that reached it, and how it has counted the changes
pub record Knowledge : Type 0 where
  pub number : ℕ
  pub clock : ℕ
  pub operations : List Op
  pub count : Count

-- before the first event
abbrev pub knows_nothing : ℕ → Knowledge
knows_nothing number = record { number = number; clock = 0; operations = []; count = none_counted }

-- the state of the marks that the operations leave: a law of the run says that it is the least above their atoms
abbrev pub known_state : List Op → State
known_state os = state_of (all_marks os)

-- the node that has learnt just this
abbrev pub node_of : Knowledge → NodeContent
node_of k = record { number = k.number; clock = k.clock; table = record { state = known_state k.operations; count = k.count } }

-- The node has issued an operation: the clock moves on, and the operation joins what is known.
pub record Issues (old : Knowledge) (operation : Op) (new : Knowledge) : Type 0 where
  pub number : new.number ≡ old.number
  pub clock : new.clock ≡ old.clock + 1
  pub operations : new.operations ≡ operation ∷ old.operations
  pub count : Recounts (known_state old.operations) (known_state new.operations) old.count new.count

-- what is known after an operation, or after none
abbrev pub IssuesOr : Knowledge → Option Op → Knowledge → Type 0
IssuesOr old None new = new ≡ old
IssuesOr old (Some operation) new = Issues old operation new

-- Operations have reached the node, and a clock: the greater clock counts.
pub record Gains (old : Knowledge) (clock : ℕ) (operations : List Op) (new : Knowledge) : Type 0 where
  pub number : new.number ≡ old.number
  pub clock_is : new.clock ≡ max old.clock clock
  pub operations_are : new.operations ≡ operations ++ old.operations
  pub count : Recounts (known_state old.operations) (known_state new.operations) old.count new.count

-- ---- messages
abbrev pub is_among : List (List ℕ) → List ℕ → Bool
is_among names e = list_any (eq_by_cmp text_cmp e) names

-- the operations about these endpoints
abbrev pub about : List (List ℕ) → List Op → List Op
about names os = filter (λ o. is_among names o.endpoint) os

abbrev pub names_of : List (List ℕ × Slot) → List (List ℕ)
names_of slots = map (λ s. s.0) slots

-- a message: the delta that is sent, and the operations of the sender about the endpoints that it names
pub record Message : Type 0 where
  pub delta : DeltaContent
  pub operations : List Op
