-- What two nodes know once each has merged the whole delta of the other.
use Rattle.std.specs.Prelude.{◌≡◌, ◌≢◌, ◌↔◌, ℕ, max, List, Option, IsSome}
use Rattle.std.specs.FinMap.{get}
use Rattle.lw_reg.specs.declared.op.Op.{Op}
use Rattle.lw_reg.specs.declared.slot.Slot.{Slot}
use Rattle.lw_reg.specs.Reading.{shown_in}
use Rattle.lw_reg.specs.State.{state_join}
use Rattle.lw_table.specs.Changes.{IsSince}
use Rattle.lw_call.specs.declared.answer.Answer.{Answer}
use Rattle.lw_call.specs.declared.question.Question.{Question}
use Rattle.lw_call.specs.declared.question.Question.TheVariants.{Change}
use Rattle.lw_node.specs.Exchange.{Merged}
use Rattle.lw_node.specs.Node.{NodeContent, fresh, Leaves}
use Rattle.lw_node.specs.Steps.{Answers}
use Rattle.lw_held.specs.declared.entry.Entry.{Entry}
use Rattle.lw_held.specs.History.{Leads}

-- The node has counted all that it knows: each endpoint of which it knows has moved since 0. So its delta since 0 has all.
abbrev pub IsCounted : NodeContent → Type 0
IsCounted node = (endpoint : List ℕ) → IsSome (get node.table.state endpoint) → IsSince node.table.count 0 endpoint

-- ---- how a node comes to that
abbrev pub NewIsCounted : Type 0
NewIsCounted = (number : ℕ) → IsCounted (fresh number)

-- an operation, or none, keeps it
abbrev pub OperationsCount : Type 0
OperationsCount = (old new : NodeContent) (operation : Option Op) → Leaves old operation new → IsCounted old → IsCounted new

-- and so does a merge
abbrev pub MergesCount : Type 0
MergesCount =
    (old new : NodeContent) (clock : ℕ) (slots : List (List ℕ × Slot)) → Merged old clock slots new → IsCounted old → IsCounted new

-- and a legal history
abbrev pub HistoriesCount : Type 0
HistoriesCount = (old new : NodeContent) (entries : List Entry) → Leads old entries new → IsCounted old → IsCounted new

-- ---- what both know
-- the node knows what the two knew
pub record KnowsBoth (one other node : NodeContent) : Type 0 where
  pub clock : node.clock ≡ max one.clock other.clock
  pub state : node.table.state ≡ state_join one.table.state other.table.state

-- what answers a question at one answers it at the other, but for how often each has changed
abbrev pub AnswerAlike : NodeContent → NodeContent → Type 0
AnswerAlike one other =
    (now : ℕ) (question : Question) → question ≢ Change → (answer : Answer)
    → Answers one (shown_in one.table.state) now question answer ↔ Answers other (shown_in other.table.state) now question answer
