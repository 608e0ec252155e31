-- Which outcomes the events of a run may have, and what its nodes then know.
use Rattle.std.specs.Prelude.{◌≡◌, ℕ, zero, suc, ◌+◌, ◌<◌, List, [], ◌∷◌, ◌++◌, length, take, set, slice_get, Option, Some, None, Result, Ok, Err}
use Rattle.lw_reg.specs.declared.op.Op.{Op}
use Rattle.lw_reg.specs.Marks.{left_by}
use Rattle.lw_table.specs.Changes.{IsSinceIn}
use Rattle.lw_delta.specs.Delta.{DeltaContent, IsSpelling}
use Rattle.lw_delta.specs.Writing.{delta_bytes}
use Rattle.lw_call.specs.declared.call.Call.TheVariants as calls
use Rattle.lw_call.specs.declared.merge_fault.MergeFault.{MergeFault}
use Rattle.lw_call.specs.declared.merge_fault.MergeFault.TheVariants.{Malformed, NoMemory}
use Rattle.lw_call.specs.declared.reply.Reply.TheVariants as replies
use Rattle.lw_node.specs.Steps.{Context, StepsIn}
use Rattle.lw_world.specs.declared.event.Action.{Action}
use Rattle.lw_world.specs.declared.event.Action.TheVariants as actions
use Rattle.lw_world.specs.declared.event.Event.{Event}
use Rattle.lw_world.specs.declared.outcome.Outcome.{Outcome}
use Rattle.lw_world.specs.declared.outcome.Outcome.TheVariants as outcomes
use Rattle.lw_world.specs.declared.outcome.Sending.{Sending}
use Rattle.lw_world.specs.Known.{Knowledge, Message, knows_nothing, known_state, node_of, IssuesOr, Gains, about, names_of}

-- The nodes of a run, the first of number 1; its messages, the first of number 0; and each operation that was issued,
-- the last first.
pub record History : Type 0 where
  pub nodes : List Knowledge
  pub messages : List Message
  pub issued : List Op

abbrev pub numbered_from : ℕ → ℕ → List Knowledge
numbered_from first zero = []
numbered_from first (suc more) = knows_nothing first ∷ numbered_from (first + 1) more

-- before the first event
abbrev pub begun : ℕ → History
begun count = record { nodes = numbered_from 1 count; messages = []; issued = [] }

-- ---- one node
-- what is issued, if anything is
abbrev pub noted : Option Op → List Op → List Op
noted None issued = issued
noted (Some operation) issued = operation ∷ issued

-- what is left after a node has done something: the operation that it issued, if it did, what it knows, and the messages
pub record Left : Type 0 where
  pub operation : Option Op
  pub knows : Knowledge
  pub messages : List Message

-- nothing is changed
abbrev pub idle : List Message → Knowledge → Left
idle messages k = record { operation = None; knows = k; messages = messages }

-- the operation is issued, or none is, and it joins what is known
pub record Issuing (messages : List Message) (k : Knowledge) (operation : Option Op) (left : Left) : Type 0 where
  pub issued : left.operation ≡ operation
  pub known : IssuesOr k operation left.knows
  pub messages_are : left.messages ≡ messages

-- The next message is a delta: it has the sender's clock, exactly the slots that moved after the change number, and
-- brings the operations about their endpoints.
pub record Sends (messages : List Message) (k : Knowledge) (since : ℕ) (sending : Sending) (left : Left) : Type 0 where
  pub delta : DeltaContent
  pub clock : delta.clock ≡ k.clock
  pub slots : IsSinceIn (known_state k.operations) k.count since delta.slots
  pub spelled : IsSpelling (delta_bytes delta.clock delta.slots) delta
  pub number : sending.message ≡ length messages
  pub change : sending.change ≡ k.count.change
  pub left_is : left ≡ record { operation = None; knows = k; messages = messages ++ record { delta = delta; operations = about (names_of delta.slots) k.operations } ∷ [] }

-- The message reaches the node: it gains these of its operations.
pub record Delivers (messages : List Message) (k : Knowledge) (clock : ℕ) (operations : List Op) (left : Left) : Type 0 where
  pub gains : Gains k clock operations left.knows
  pub none : left.operation ≡ None
  pub messages_are : left.messages ≡ messages

-- All of a message reaches the node, or where there is no memory for more what it has of the first endpoints, fewer
-- than all.
abbrev pub Delivered : List Message → Knowledge → Message → Result ℕ MergeFault → Left → Type 0
Delivered messages k m (Ok count) left = (count ≡ length m.delta.slots) × Delivers messages k m.delta.clock m.operations left
Delivered messages k m (Err (NoMemory joined)) left =
    (joined < length m.delta.slots) × Delivers messages k m.delta.clock (about (names_of (take joined m.delta.slots)) m.operations) left
Delivered messages k m (Err (Malformed fault)) left = ⊥

-- where a call is made of a node that knows this, with these messages; no delta comes by a call
abbrev pub at_knowledge : List Message → Knowledge → Left → Context
at_knowledge messages k left = record {
  node = node_of k;
  marks = left_by k.operations;
  After = λ operation. Issuing messages k operation left;
  AfterMerge = λ bytes outcome. ⊥;
}

-- What a node does that knows this, with these messages; and what is left. Want of memory changes nothing, save that a
-- message may have reached the node in part.
abbrev pub Acts : List Message → Knowledge → Action → Outcome → Left → Type 0
Acts messages k (actions.Take now source bytes) (outcomes.Taken outcome) left = StepsIn (at_knowledge messages k left) (calls.Take now source bytes) (replies.Take outcome)
Acts messages k (actions.Observe now id path accept mid) (outcomes.Observed outcome) left = StepsIn (at_knowledge messages k left) (calls.Observe now id path accept mid) (replies.Observe outcome)
Acts messages k (actions.Cancel now token mid) (outcomes.Cancelled outcome) left = StepsIn (at_knowledge messages k left) (calls.Cancel now token mid) (replies.Cancel outcome)
Acts messages k (actions.Sweep now) (outcomes.Swept outcome) left = StepsIn (at_knowledge messages k left) (calls.Sweep now) (replies.Sweep outcome)
Acts messages k (actions.Ask now question) (outcomes.Answered outcome) left = StepsIn (at_knowledge messages k left) (calls.Ask now question) (replies.Ask outcome)
Acts messages k (actions.Send since) (outcomes.Sent (Ok sending)) left = Sends messages k since sending left
Acts messages k (actions.Send since) (outcomes.Sent (Err refused)) left = left ≡ idle messages k
Acts messages k (actions.Deliver number) (outcomes.Delivered outcome) left = (m : Message) × (slice_get messages number ≡ Some m) × Delivered messages k m outcome left
Acts messages k (actions.Deliver number) outcomes.NoSuchMessage left = (slice_get messages number ≡ None) × (left ≡ idle messages k)
Acts messages k _ _ left = ⊥

-- ---- the run
-- the node of the number, of nodes that are numbered from 1
abbrev pub at_number : {A : Type 0} → List A → ℕ → Option A
at_number nodes zero = None
at_number nodes (suc place) = slice_get nodes place

-- the node of the number knows something else
abbrev pub with_node : {A : Type 0} → List A → ℕ → A → List A
with_node nodes zero a = nodes
with_node nodes (suc place) a = set nodes place a

abbrev pub after : History → ℕ → Left → History
after h number left = record { nodes = with_node h.nodes number left.knows; messages = left.messages; issued = noted left.operation h.issued }

-- the node of the event does it
pub record Happens (old : History) (event : Event) (outcome : Outcome) (new : History) : Type 0 where
  pub knows : Knowledge
  pub is : at_number old.nodes event.node ≡ Some knows
  pub left : Left
  pub acts : Acts old.messages knows event.action outcome left
  pub new_is : new ≡ after old event.node left

-- An event has its outcome, or there is no such node.
abbrev pub Steps : History → Event → Outcome → History → Type 0
Steps old event outcomes.NoSuchNode new = (at_number old.nodes event.node ≡ None) × (new ≡ old)
Steps old event outcome new = Happens old event outcome new

-- each event has its outcome
abbrev pub Runs : History → List Event → List Outcome → History → Type 0
Runs old [] [] new = new ≡ old
Runs old (e ∷ es) (o ∷ os) new = (mid : History) × Steps old e o mid × Runs mid es os new
Runs old [] (o ∷ os) new = ⊥
Runs old (e ∷ es) [] new = ⊥
