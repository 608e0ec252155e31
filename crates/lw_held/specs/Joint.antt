-- Joint histories: the calls of several nodes in one order, with the deltas that pass between them; and the run that they
-- are of.
use Rattle.std.specs.Prelude.{◌≡◌, ◌==◌, ℕ, ◌≤◌, List, [], ◌∷◌, ◌++◌, length, map, filter, slice_get, Some, Ok, Err}
use Rattle.lw_call.specs.declared.call.Call.{Call}
use Rattle.lw_call.specs.declared.call.Call.TheVariants as calls
use Rattle.lw_call.specs.declared.reply.Reply.{Reply}
use Rattle.lw_call.specs.declared.reply.Reply.TheVariants as replies
use Rattle.lw_node.specs.Node.{NodeContent}
use Rattle.lw_world.specs.declared.event.Action.{Action}
use Rattle.lw_world.specs.declared.event.Action.TheVariants as actions
use Rattle.lw_world.specs.declared.event.Event.{Event}
use Rattle.lw_world.specs.declared.outcome.Outcome.{Outcome}
use Rattle.lw_world.specs.declared.outcome.Outcome.TheVariants as results
use Rattle.lw_world.specs.Known.{Knowledge, node_of}
use Rattle.lw_world.specs.Run.{History, Runs, begun, at_number}
use Rattle.lw_held.specs.declared.entry.Entry.{Entry}
use Rattle.lw_held.specs.Marked.{IsHistory}

-- ---- joint histories
-- an entry, and the number of the node that it is of
pub record Turn : Type 0 where
  pub node : ℕ
  pub entry : Entry

-- the entries of one node, in order
abbrev pub entries_of : ℕ → List Turn → List Entry
entries_of number turns = map (λ turn. turn.entry) (filter (λ turn. turn.node == number) turns)

-- each turn is of a node of the run: one of so many, numbered from 1
abbrev pub AreOfRun : ℕ → List Turn → Type 0
AreOfRun count [] = Unit {0}
AreOfRun count (turn ∷ turns) = (1 ≤ turn.node) × (turn.node ≤ count) × AreOfRun count turns

-- the deltas that were sent so far, and that of the reply, if it brings one
abbrev pub with_delta : List (List ℕ) → Reply → List (List ℕ)
with_delta deltas (replies.Send (Ok sent)) = deltas ++ sent.delta ∷ []
with_delta deltas _ = deltas

-- what is merged is one of the deltas that were sent so far
abbrev pub IsPassedOn : List (List ℕ) → Call → Type 0
IsPassedOn deltas (calls.Merge bytes) = (number : ℕ) × (slice_get deltas number ≡ Some bytes)
IsPassedOn deltas _ = Unit {0}

-- the bytes of each merge are the delta that an earlier reply brought
abbrev pub ArePassedOn : List (List ℕ) → List Turn → Type 0
ArePassedOn deltas [] = Unit {0}
ArePassedOn deltas (turn ∷ turns) = IsPassedOn deltas turn.entry.call × ArePassedOn (with_delta deltas turn.entry.reply) turns

-- The turns are a joint history of so many nodes: the entries of each are a history over its clock and marks alone, which
-- leads from a new node to its last, and deltas are passed on unaltered.
pub record IsJoint (count : ℕ) (turns : List Turn) (last : ℕ → NodeContent) : Type 0 where
  pub of_run : AreOfRun count turns
  pub legal : (number : ℕ) → 1 ≤ number → number ≤ count → IsHistory number (entries_of number turns) (last number)
  pub passed_on : ArePassedOn [] turns

-- ---- the run of a joint history
-- The call is the action, and the reply the outcome: a Send that brings a delta makes the next message, and what is merged
-- is a message that is delivered.
abbrev pub IsToldAs : List (List ℕ) → Call → Reply → Action → Outcome → Type 0
IsToldAs deltas (calls.Take now source bytes) (replies.Take outcome) action told = (action ≡ actions.Take now source bytes) × (told ≡ results.Taken outcome)
IsToldAs deltas (calls.Observe now id path accept mid) (replies.Observe outcome) action told = (action ≡ actions.Observe now id path accept mid) × (told ≡ results.Observed outcome)
IsToldAs deltas (calls.Cancel now token mid) (replies.Cancel outcome) action told = (action ≡ actions.Cancel now token mid) × (told ≡ results.Cancelled outcome)
IsToldAs deltas (calls.Sweep now) (replies.Sweep outcome) action told = (action ≡ actions.Sweep now) × (told ≡ results.Swept outcome)
IsToldAs deltas (calls.Ask now question) (replies.Ask outcome) action told = (action ≡ actions.Ask now question) × (told ≡ results.Answered outcome)
IsToldAs deltas (calls.Send since) (replies.Send (Ok sent)) action told = (action ≡ actions.Send since) × (told ≡ results.Sent (Ok (record { message = length deltas; change = sent.change })))
IsToldAs deltas (calls.Send since) (replies.Send (Err refused)) action told = (action ≡ actions.Send since) × (told ≡ results.Sent (Err refused))
IsToldAs deltas (calls.Merge bytes) (replies.Merge outcome) action told = (number : ℕ) × (slice_get deltas number ≡ Some bytes) × (action ≡ actions.Deliver number) × (told ≡ results.Delivered outcome)
IsToldAs deltas _ _ action told = ⊥

-- the events are the calls of the turns, at their nodes, and the outcomes their replies
abbrev pub AreToldAs : List (List ℕ) → List Turn → List Event → List Outcome → Type 0
AreToldAs deltas [] [] [] = Unit {0}
AreToldAs deltas (turn ∷ turns) (event ∷ events) (outcome ∷ rest) =
    (event.node ≡ turn.node) × IsToldAs deltas turn.entry.call turn.entry.reply event.action outcome
    × AreToldAs (with_delta deltas turn.entry.reply) turns events rest
AreToldAs deltas _ _ _ = ⊥

-- The replies are outcomes that a run of the calls may have, and each node ends with the clock, the state and the change
-- numbers of what has reached it in the run.
pub record IsRun (count : ℕ) (turns : List Turn) (last : ℕ → NodeContent) : Type 0 where
  pub events : List Event
  pub outcomes : List Outcome
  pub told : AreToldAs [] turns events outcomes
  pub history : History
  pub runs : Runs (begun count) events outcomes history
  pub ends : (number : ℕ) → 1 ≤ number → number ≤ count → (knows : Knowledge) × (at_number history.nodes number ≡ Some knows) × (last number ≡ node_of knows)

-- each joint history is that of a run
abbrev pub JointHistoriesRun : Type 0
JointHistoriesRun = (count : ℕ) (turns : List Turn) (last : ℕ → NodeContent) → IsJoint count turns last → IsRun count turns last
