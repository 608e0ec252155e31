-- Legal histories over clock and marks alone: each reply is that of the clock and the marks which the entries before it
-- left, and what the first entry is made over is the opening's (Shapiro et al., Conflict-free Replicated Data Types, 2011).
use Rattle.std.specs.Prelude.{◌≡◌, ◌↔◌, ℕ, ◌+◌, ◌<◌, max, List, [], ◌∷◌, ◌++◌, length, take, Option, Some, None, Result, Ok, Err}
use Rattle.lw_reg.specs.declared.op.Op.{Op}
use Rattle.lw_reg.specs.declared.slot.Slot.{Slot}
use Rattle.lw_reg.specs.Marks.{Mark, NamesAll, among, marks_of}
use Rattle.lw_reg.specs.State.{state_of}
use Rattle.lw_table.specs.Changes.{Count, Recounts}
use Rattle.lw_table.specs.Table.{none_counted}
use Rattle.lw_delta.specs.Delta.{DeltaContent, IsSpelling, IsFault}
use Rattle.lw_call.specs.declared.call.Call.{Call}
use Rattle.lw_call.specs.declared.merge_fault.MergeFault.{MergeFault}
use Rattle.lw_call.specs.declared.merge_fault.MergeFault.TheVariants.{Malformed, NoMemory}
use Rattle.lw_call.specs.declared.reply.Reply.{Reply}
use Rattle.lw_node.specs.Exchange.{AreShown}
use Rattle.lw_node.specs.Node.{NodeContent}
use Rattle.lw_node.specs.Steps.{Context, StepsIn}
use Rattle.lw_held.specs.declared.entry.Entry.{Entry}
use Rattle.lw_held.specs.History.{Leads}

-- what is known at a node: its number, its clock, the marks, and how it has counted the changes
pub record Marked : Type 0 where
  pub number : ℕ
  pub clock : ℕ
  pub marks : List Mark
  pub count : Count

-- of a new node
abbrev pub unmarked : ℕ → Marked
unmarked number = record { number = number; clock = 0; marks = []; count = none_counted }

-- the node that knows just this
abbrev pub node_of : Marked → NodeContent
node_of known = record { number = known.number; clock = known.clock; table = record { state = state_of known.marks; count = known.count } }

-- These marks are added, under this clock. Each endpoint whose state changes by them takes the next change number.
pub record Adds (old : Marked) (clock : ℕ) (marks : List Mark) (new : Marked) : Type 0 where
  pub number : new.number ≡ old.number
  pub clock_is : new.clock ≡ clock
  pub marks_are : new.marks ≡ old.marks ++ marks
  pub count : Recounts (state_of old.marks) (state_of new.marks) old.count new.count

-- ---- operations
-- an operation takes the next number of the clock, and its marks are added
abbrev pub AddsOr : Marked → Option Op → Marked → Type 0
AddsOr old None new = new ≡ old
AddsOr old (Some operation) new = Adds old (old.clock + 1) (marks_of operation) new

-- ---- deltas
-- the marks that these slots show are added, and the clock is the greater of both
pub record Brings (old : Marked) (clock : ℕ) (slots : List (List ℕ × Slot)) (new : Marked) : Type 0 where
  pub marks : List Mark
  pub shown : AreShown slots marks
  pub adds : Adds old (max old.clock clock) marks new

-- All slots of the delta bring their marks, or where there is no memory for more its first, fewer than all. Bytes that
-- are no delta change nothing, and the fault is the first.
abbrev pub Merges : Marked → List ℕ → Result ℕ MergeFault → Marked → Type 0
Merges old bytes (Ok count) new = (delta : DeltaContent) × IsSpelling bytes delta × (count ≡ length delta.slots) × Brings old delta.clock delta.slots new
Merges old bytes (Err (NoMemory joined)) new = (delta : DeltaContent) × IsSpelling bytes delta × (joined < length delta.slots) × Brings old delta.clock (take joined delta.slots) new
Merges old bytes (Err (Malformed fault)) new = IsFault bytes fault × (new ≡ old)

-- ---- histories
-- where a call is made of a node that knows this
abbrev pub at_marked : Marked → Marked → Context
at_marked old new = record {
  node = node_of old;
  marks = among old.marks;
  After = λ operation. AddsOr old operation new;
  AfterMerge = λ bytes outcome. Merges old bytes outcome new;
}

-- a call of a node that knows this, its reply, and what is known then
abbrev pub Steps : Marked → Call → Reply → Marked → Type 0
Steps old call reply new = StepsIn (at_marked old new) call reply

-- the entries lead from what is known to what is known then
abbrev pub MarksLead : Marked → List Entry → Marked → Type 0
MarksLead old [] new = new ≡ old
MarksLead old (entry ∷ entries) new = (mid : Marked) × Steps old entry.call entry.reply mid × MarksLead mid entries new

-- the entries are a history over clock and marks alone from an opening, after which the node knows just this
abbrev pub IsHistoryFrom : Marked → List Entry → NodeContent → Type 0
IsHistoryFrom opening entries node = (known : Marked) × MarksLead opening entries known × (node ≡ node_of known)

-- the same of a new node
abbrev pub IsHistory : ℕ → List Entry → NodeContent → Type 0
IsHistory number entries node = IsHistoryFrom (unmarked number) entries node

-- From an opening whose marks name each registration that they are about, the legal histories are those over clock and
-- marks alone. An opening without marks is one.
abbrev pub HistoriesAreOfMarks : Type 0
HistoriesAreOfMarks =
    (opening : Marked) (entries : List Entry) (node : NodeContent) → NamesAll (among opening.marks)
    → Leads (node_of opening) entries node ↔ IsHistoryFrom opening entries node

-- Each node knows just some marks, which name each registration that they are about: so each opening is one.
abbrev pub NodesAreOfMarks : Type 0
NodesAreOfMarks = (node : NodeContent) → (known : Marked) × NamesAll (among known.marks) × (node ≡ node_of known)
