-- What holds of every run: clocks and stamps, and that what reached a node decides its answers.
use Rattle.std.specs.Prelude.{◌≡◌, ◌≢◌, ◌↔◌, ℕ, ◌≤◌, List, Some, Contains, AllPairs}
use Rattle.lw_reg.specs.declared.op.Op.{Op}
use Rattle.lw_reg.specs.Marks.{Mark, NamesAll, among, left_by, all_marks}
use Rattle.lw_reg.specs.State.{State, IsStateOf}
use Rattle.lw_call.specs.declared.answer.Answer.{Answer}
use Rattle.lw_call.specs.declared.question.Question.{Question}
use Rattle.lw_call.specs.declared.question.Question.TheVariants.{Change}
use Rattle.lw_node.specs.Laws.{WellStamped}
use Rattle.lw_node.specs.Node.{NodeContent}
use Rattle.lw_node.specs.Steps.{Answers}
use Rattle.lw_node.specs.Within.{TokenWithin}
use Rattle.lw_world.specs.declared.event.Event.{Event}
use Rattle.lw_world.specs.declared.outcome.Outcome.{Outcome}
use Rattle.lw_world.specs.Known.{Knowledge, known_state, node_of}
use Rattle.lw_world.specs.Run.{History, Runs, begun, at_number}

-- what a run of so many nodes comes to
pub record IsReached (count : ℕ) (h : History) : Type 0 where
  pub events : List Event
  pub outcomes : List Outcome
  pub runs : Runs (begun count) events outcomes h

-- ---- clocks and stamps
-- the operation, and what it is about, are not above the clock
pub record IsWithin (clock : ℕ) (o : Op) : Type 0 where
  pub stamp : o.stamp.counter ≤ clock
  pub registration : o.reg.counter ≤ clock
  pub token : TokenWithin clock o.what

-- at every node the clock is at or above all that is known there, also of what left no trace in a slot
abbrev pub ClocksLead : Type 0
ClocksLead =
    (count : ℕ) (h : History) → IsReached count h → (number : ℕ) (k : Knowledge) → at_number h.nodes number ≡ Some k
    → (o : Op) → Contains k.operations o → IsWithin k.clock o

-- all operations of a run have stamps of their own
abbrev pub StampsDiffer : Type 0
StampsDiffer = (count : ℕ) (h : History) → IsReached count h → AllPairs (λ (o p : Op). o.stamp ≢ p.stamp) h.issued

-- what is known at a node was issued, so that it is well stamped
pub record IsIssued (h : History) (k : Knowledge) : Type 0 where
  pub known : (o : Op) → Contains k.operations o → Contains h.issued o
  pub stamped : WellStamped k.operations

abbrev pub KnownWasIssued : Type 0
KnownWasIssued =
    (count : ℕ) (h : History) → IsReached count h → (number : ℕ) (k : Knowledge) → at_number h.nodes number ≡ Some k → IsIssued h k

-- ---- what decides the answers
-- the state of a node is the least above the marks of what it knows
abbrev pub KnownStatesAreLeast : Type 0
KnownStatesAreLeast = (k : Knowledge) → IsStateOf (all_marks k.operations) (node_of k).table.state

-- sets of marks with one state have the same answers
abbrev pub StatesDecideAnswers : Type 0
StatesDecideAnswers =
    (ms ns : List Mark) → NamesAll (among ms) → NamesAll (among ns) → (s : State) → IsStateOf ms s → IsStateOf ns s
    → (node : NodeContent) (now : ℕ) (question : Question) (answer : Answer) → Answers node (among ms) now question answer ↔ Answers node (among ns) now question answer

-- the same operations have reached both
abbrev pub KnowTheSame : Knowledge → Knowledge → Type 0
KnowTheSame j k = (o : Op) → Contains j.operations o ↔ Contains k.operations o

-- Two nodes that the same set reached have one state, and what answers a question at one answers it at the other: both
-- give equal answers. How often each has changed is its own.
pub record AreAlike (j k : Knowledge) : Type 0 where
  pub state : known_state j.operations ≡ known_state k.operations
  pub answers : (now : ℕ) (question : Question) → question ≢ Change → (answer : Answer)
      → Answers (node_of j) (left_by j.operations) now question answer ↔ Answers (node_of k) (left_by k.operations) now question answer
  pub equal : (now : ℕ) (question : Question) → question ≢ Change → (one other : Answer)
      → Answers (node_of j) (left_by j.operations) now question one → Answers (node_of k) (left_by k.operations) now question other → one ≡ other

abbrev pub SameSetsAnswerAlike : Type 0
SameSetsAnswerAlike = (j k : Knowledge) → KnowTheSame j k → AreAlike j k
