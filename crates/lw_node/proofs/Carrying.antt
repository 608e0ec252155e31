-- A step is one also where what it leaves is said in other words: what says it of an operation, of none and of a merge
-- says it of each call.
use Rattle.std.proofs.Common.{ℕ, List, Option, Some, None, Result, Ok, Err}
use Rattle.lw_stamp.specs.declared.stamp.Stamp.{Stamp}
use Rattle.lw_stamp.specs.Moment.{ms_of}
use Rattle.lw_reg.specs.declared.op.Op.{Op}
use Rattle.lw_call.specs.declared.call.Call.{Call}
use Rattle.lw_call.specs.declared.call.Call.TheVariants as calls
use Rattle.lw_call.specs.declared.clock_end.ClockEnd.{ClockEnd}
use Rattle.lw_call.specs.declared.merge_fault.MergeFault.{MergeFault}
use Rattle.lw_call.specs.declared.observe_fault.ObserveFault.{ObserveFault}
use Rattle.lw_call.specs.declared.observe_fault.ObserveFault.TheVariants as faults
use Rattle.lw_call.specs.declared.reply.Reply.{Reply}
use Rattle.lw_call.specs.declared.reply.Reply.TheVariants as replies
use Rattle.lw_call.specs.Contents.{TakenContent, OutgoingContent}
use Rattle.lw_node.specs.Calls.{TakesSo, Sent, Swept}
use Rattle.lw_node.specs.Effects.{Effect, Request, Refused, ObserveMeans, CancelMeans, SweepMeans}
use Rattle.lw_node.specs.Steps.{Context, StepsIn, issuer_in}

-- What is left in the first words gives some K, and what is left in the other words, which speak of it.
module _ {K : Type 0} (known : Context) (After : K → Option Op → Type 0) (AfterMerge : K → List ℕ → Result ℕ MergeFault → Type 0)
    (after : (operation : Option Op) → known.After operation → (k : K) × After k operation)
    (merged : (bytes : List ℕ) (outcome : Result ℕ MergeFault) → known.AfterMerge bytes outcome → (k : K) × AfterMerge k bytes outcome) where
  abbrev pub Other : K → Context
  Other k = record { node = known.node; marks = known.marks; After = After k; AfterMerge = AfterMerge k }

  takes : (Meant : Effect → Type 0) (taken : TakenContent) → TakesSo Meant known.After taken → (k : K) × TakesSo Meant (After k) taken
  takes Meant taken h =
      let left = after h.operation h.left in
      (left.0, record { reply = h.reply; operation = h.operation; meant = h.meant; replied = h.replied; left = left.1 })

  -- after no operation
  none : (P : Type 0) → P × known.After None → (k : K) × (P × After k None)
  none P h =
      let left = after None h.1 in
      (left.0, (h.0, left.1))

  sent : (Meant : Result (Request × Op) Refused → Type 0) (outcome : Result OutgoingContent ObserveFault) → Sent Meant known.After outcome → (k : K) × Sent Meant (After k) outcome
  sent Meant (Ok outgoing) h =
      let left = after (Some h.operation) h.left in
      (left.0, record { request = h.request; operation = h.operation; meant = h.meant; sent = h.sent; left = left.1 })
  sent Meant (Err faults.NotFound) h = none _ h
  sent Meant (Err faults.ClockEnd) h = none _ h
  sent Meant (Err faults.NoMemory) h = none _ h

  swept : (Meant : Result (Option Op) Refused → Type 0) (outcome : Result (Option Stamp) ClockEnd) → Swept Meant known.After outcome → (k : K) × Swept Meant (After k) outcome
  swept Meant (Ok (Some id)) h =
      let left = after (Some h.0) h.3 in
      (left.0, (h.0, h.1, h.2, left.1))
  swept Meant (Ok None) h = none _ h
  swept Meant (Err ended) h = none _ h

  pub carried : (call : Call) (reply : Reply) → StepsIn known call reply → (k : K) × StepsIn (Other k) call reply
  carried (calls.Take now source bytes) (replies.Take (Ok taken)) h = takes _ taken h
  carried (calls.Take now source bytes) (replies.Take (Err refused)) h = none _ h
  carried (calls.Observe now id path accept mid) (replies.Observe outcome) h = sent (ObserveMeans (issuer_in known (ms_of now)) known.marks id path accept mid) outcome h
  carried (calls.Cancel now token mid) (replies.Cancel outcome) h = sent (CancelMeans (issuer_in known (ms_of now)) known.marks token mid) outcome h
  carried (calls.Sweep now) (replies.Sweep outcome) h = swept (SweepMeans (issuer_in known (ms_of now)) known.marks) outcome h
  carried (calls.Send since) (replies.Send outcome) h = none _ h
  carried (calls.Merge bytes) (replies.Merge outcome) h = merged bytes outcome h
  carried (calls.Ask now question) (replies.Ask outcome) h = none _ h
  carried _ _ h = absurd h
