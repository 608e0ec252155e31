-- The steps of a node: a call, its reply, and what is known before and after. Every way to call a node is one of them.
-- What they say is the same whether it is the node that is known, the operations that reached it, or its marks.
use Rattle.std.specs.Prelude.{◌≡◌, ℕ, List, IfOk, Option, None, Result, Ok, Err}
use Rattle.lw_stamp.specs.declared.no_memory.NoMemory.{NoMemory}
use Rattle.lw_stamp.specs.Moment.{ms_of}
use Rattle.lw_reg.specs.declared.op.Op.{Op}
use Rattle.lw_reg.specs.Marks.{Marks}
use Rattle.lw_reg.specs.Showing.{ShownOf}
use Rattle.lw_table.specs.Answers.{FirstAfter}
use Rattle.lw_table.specs.LookUps as look_ups
use Rattle.lw_call.specs.declared.answer.Answer.{Answer}
use Rattle.lw_call.specs.declared.answer.Answer.TheVariants as answers
use Rattle.lw_call.specs.declared.call.Call.{Call}
use Rattle.lw_call.specs.declared.call.Call.TheVariants as calls
use Rattle.lw_call.specs.declared.merge_fault.MergeFault.{MergeFault}
use Rattle.lw_call.specs.declared.question.Question.{Question}
use Rattle.lw_call.specs.declared.question.Question.TheVariants.{ById, ByEndpoint, ByAddress, ByToken, WatchAfter, FirstAfter as First, ExpiredAfter, Change}
use Rattle.lw_call.specs.declared.reply.Reply.{Reply}
use Rattle.lw_call.specs.declared.reply.Reply.TheVariants as replies
use Rattle.lw_call.specs.Found.{IsFound}
use Rattle.lw_node.specs.Calls.{TakesSo, IsSilent, Sent, Swept, issuer_at}
use Rattle.lw_node.specs.Effects.{Issuer, DatagramMeans, ObserveMeans, CancelMeans, SweepMeans}
use Rattle.lw_node.specs.Exchange.{IsDeltaSince, Merges}
use Rattle.lw_node.specs.Node.{NodeContent, Known, IsKnown, Leaves, marks_in}

-- the answer of a node, of which these marks tell
abbrev pub Answers : NodeContent → Marks → ℕ → Question → Answer → Type 0
Answers node M now (ById id) (answers.Registration found) = look_ups.ById M now id found
Answers node M now (ByEndpoint endpoint) (answers.Registration found) = ShownOf M now endpoint found
Answers node M now (ByAddress address) (answers.Registration found) = look_ups.ByAddress M now address found
Answers node M now (ByToken token) (answers.Watched found) = look_ups.ByToken M now token found
Answers node M now (WatchAfter id after) (answers.Watched found) = look_ups.WatchOfIdAfter M now id after found
Answers node M now (First after) (answers.Registration found) = FirstAfter M now after found
Answers node M now (ExpiredAfter after) (answers.Expired found) = look_ups.ExpiredAfter M now after found
Answers node M now Change (answers.Changed number) = number ≡ node.table.count.change
Answers node M now _ _ = ⊥

-- the answer; or want of memory, in place of an answer that has found something
abbrev pub Asks : NodeContent → Marks → ℕ → Question → Result Answer NoMemory → Type 0
Asks node M now question (Ok answer) = Answers node M now question answer
Asks node M now question (Err refused) = (answer : Answer) × IsFound answer × Answers node M now question answer

-- What is known where a call is made: the node, the marks that tell of it, what is left after an operation, or after
-- none, and what is left after a delta was merged.
pub record Context : Type 1 where
  pub node : NodeContent
  pub marks : Marks
  pub After : Option Op → Type 0
  pub AfterMerge : List ℕ → Result ℕ MergeFault → Type 0

abbrev pub issuer_in : Context → ℕ → Issuer
issuer_in known now = issuer_at known.node now

-- A call and its reply. Want of memory changes nothing, save that a merge may have joined the first slots.
abbrev pub StepsIn : Context → Call → Reply → Type 0
StepsIn known (calls.Take now source bytes) (replies.Take (Ok taken)) = TakesSo (DatagramMeans (issuer_in known (ms_of now)) known.marks source bytes) known.After taken
StepsIn known (calls.Take now source bytes) (replies.Take (Err refused)) = (¬ IsSilent bytes) × known.After None
StepsIn known (calls.Observe now id path accept mid) (replies.Observe outcome) = Sent (ObserveMeans (issuer_in known (ms_of now)) known.marks id path accept mid) known.After outcome
StepsIn known (calls.Cancel now token mid) (replies.Cancel outcome) = Sent (CancelMeans (issuer_in known (ms_of now)) known.marks token mid) known.After outcome
StepsIn known (calls.Sweep now) (replies.Sweep outcome) = Swept (SweepMeans (issuer_in known (ms_of now)) known.marks) known.After outcome
StepsIn known (calls.Send since) (replies.Send outcome) = IfOk outcome (λ sent. IsDeltaSince known.node since sent.delta × (sent.change ≡ known.node.table.count.change)) × known.After None
StepsIn known (calls.Merge bytes) (replies.Merge outcome) = known.AfterMerge bytes outcome
StepsIn known (calls.Ask now question) (replies.Ask outcome) = Asks known.node known.marks (ms_of now) question outcome × known.After None
StepsIn known _ _ = ⊥

-- of a node, of which these marks tell, before and after
abbrev pub at_node : NodeContent → Marks → NodeContent → Context
at_node old M new = record {
  node = old;
  marks = M;
  After = λ operation. Leaves old operation new;
  AfterMerge = λ bytes outcome. Merges old bytes outcome new;
}

-- a call of a node, its reply, and the node before and after
abbrev pub Steps : NodeContent → Marks → Call → Reply → NodeContent → Type 0
Steps old M call reply new = StepsIn (at_node old M new) call reply

-- The node answers the call so and becomes the other, over every set of marks that its state is known from.
abbrev pub IsStep : NodeContent → Call → Reply → NodeContent → Type 0
IsStep old call reply new = (known : Known) → IsKnown old.table.state known → Steps old (marks_in old.table.state known) call reply new
