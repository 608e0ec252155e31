-- A node has counted all that it knows: a new one has, and each call keeps it.
use Rattle.std.proofs.Common.{◌≡◌, ◌≢◌, ℕ, ◌+◌, ◌<◌, List, [], ◌∷◌, length, Option, Some, None, Result, Ok, Err, false, true, sym, refl, ◌∙◌, subst, arith, inl, inr}
use Rattle.std.specs.FinMap.{get, get-empty}
use Rattle.std.specs.Prelude.{IsSome}
use Rattle.std.proofs.lemmas.Option.{slice_get_read}
use Rattle.lw_stamp.specs.declared.stamp.Stamp.{Stamp}
use Rattle.lw_stamp.specs.Moment.{ms_of}
use Rattle.lw_stamp.specs.TextOrder.{text_cmp}
use Rattle.lw_reg.specs.declared.op.Op.{Op}
use Rattle.lw_reg.specs.declared.slot.Slot.{Slot}
use Rattle.lw_reg.specs.Marks.{Marks}
use Rattle.lw_reg.specs.Reading.{shown_in}
use Rattle.lw_reg.proofs.SameSlots.{same_slot}
use Rattle.lw_reg.specs.State.{State}
use Rattle.lw_table.specs.Changes.{Count, LAST, IsSince, Recounts, counted}
use Rattle.lw_call.specs.declared.call.Call.{Call}
use Rattle.lw_call.specs.declared.call.Call.TheVariants as calls
use Rattle.lw_call.specs.declared.clock_end.ClockEnd.{ClockEnd as NoStamp}
use Rattle.lw_call.specs.declared.merge_fault.MergeFault.{MergeFault}
use Rattle.lw_call.specs.declared.merge_fault.MergeFault.TheVariants.{Malformed, NoMemory}
use Rattle.lw_call.specs.declared.observe_fault.ObserveFault.{ObserveFault}
use Rattle.lw_call.specs.declared.observe_fault.ObserveFault.TheVariants as faults
use Rattle.lw_call.specs.declared.reply.Reply.{Reply}
use Rattle.lw_call.specs.declared.reply.Reply.TheVariants as replies
use Rattle.lw_call.specs.Contents.{OutgoingContent}
use Rattle.lw_node.specs.Calls.{Sent, Swept, issuer_at}
use Rattle.lw_node.specs.Effects.{Request, Refused, SweepMeans}
use Rattle.lw_node.specs.Exchange.{Merges}
use Rattle.lw_node.specs.Node.{NodeContent, Leaves}
use Rattle.lw_node.specs.Node.Known.{Shown}
use Rattle.lw_node.specs.Steps.{Steps}
use Rattle.uses.specs.Meeting.{IsCounted, NewIsCounted, OperationsCount, MergesCount, HistoriesCount}

-- ---- a count that goes on
above_none : (before i : ℕ) → 0 < counted before (i + 1)
above_none before i = omega arith

last_stays : (before after moved : ℕ) → before ≡ LAST → after ≡ counted before moved → after ≡ LAST
last_stays before after moved last is = omega (arith, last, is)

module _ (old new : State) (before after : Count) (goes_on : Recounts old new before after) where
  stays : (e : List ℕ) → get old e ≡ get new e → IsSince before 0 e → IsSince after 0 e
  stays e same (inl last) = inl (last_stays before.change after.change (length goes_on.moved) last goes_on.change)
  stays e same (inr x) = inr (x.0, goes_on.kept e same ∙ x.1, x.2)

  moves : (e : List ℕ) → get old e ≢ get new e → IsSince after 0 e
  moves e other =
      let there = (goes_on.all e).1 other in
      inr (counted before.change (there.0 + 1), goes_on.numbered there.0 e (slice_get_read goes_on.moved (length goes_on.moved) there.0 e refl there.1 (sym there.2)), above_none before.change there.0)

  goes_on_counted : ((e : List ℕ) → IsSome (get old e) → IsSince before 0 e) → (e : List ℕ) → IsSome (get new e) → IsSince after 0 e
  goes_on_counted all e there = same_slot (get old e) (get new e) (λ same. stays e same (all e (subst (λ (o : Option Slot). IsSome o) (sym same) there))) (λ other. moves e other)

-- ---- the laws
pub new_is_counted : NewIsCounted
new_is_counted number e there = absurd (let bad : false ≡ true = subst (λ (o : Option Slot). IsSome o) (get-empty text_cmp e) there in cc)

pub operations_count : OperationsCount
operations_count old new None is all = subst IsCounted (sym is) all
operations_count old new (Some operation) is all = goes_on_counted old.table.state new.table.state old.table.count new.table.count is.count all

pub merges_count : MergesCount
merges_count old new clock slots is all = goes_on_counted old.table.state new.table.state old.table.count new.table.count is.count all

-- whatever comes of a merge
pub merge_counts : (old new : NodeContent) (bytes : List ℕ) (result : Result ℕ MergeFault) → Merges old bytes result new → IsCounted old → IsCounted new
merge_counts old new bytes (Ok count) is all = merges_count old new is.delta.clock is.delta.slots is.merged all
merge_counts old new bytes (Err (Malformed fault)) is all = subst IsCounted (sym is.1) all
merge_counts old new bytes (Err (NoMemory joined)) is all = merges_count old new is.delta.clock _ is.merged all

-- ---- each call of a node
module _ (old new : NodeContent) where
  after : (operation : Option Op) → Leaves old operation new → IsCounted old → IsCounted new
  after operation is all = operations_count old new operation is all

  sent_counts : (Meant : Result (Request × Op) Refused → Type 0) (outcome : Result OutgoingContent ObserveFault) → Sent Meant (λ operation. Leaves old operation new) outcome → IsCounted old → IsCounted new
  sent_counts Meant (Ok outgoing) s all = after (Some s.operation) s.left all
  sent_counts Meant (Err faults.NotFound) s all = after None s.1 all
  sent_counts Meant (Err faults.ClockEnd) s all = after None s.1 all
  sent_counts Meant (Err faults.NoMemory) s all = after None s.1 all

  swept_counts : (Meant : Result (Option Op) Refused → Type 0) (outcome : Result (Option Stamp) NoStamp) → Swept Meant (λ operation. Leaves old operation new) outcome → IsCounted old → IsCounted new
  swept_counts Meant (Ok (Some id)) s all = after (Some s.0) s.3 all
  swept_counts Meant (Ok None) s all = after None s.1 all
  swept_counts Meant (Err ended) s all = after None s.1 all

  step_counts : (M : Marks) (call : Call) (reply : Reply) → Steps old M call reply new → IsCounted old → IsCounted new
  step_counts M (calls.Take now source bytes) (replies.Take (Ok taken)) s all = after s.operation s.left all
  step_counts M (calls.Take now source bytes) (replies.Take (Err refused)) s all = after None s.1 all
  step_counts M (calls.Observe now id path accept mid) (replies.Observe outcome) s all = sent_counts _ outcome s all
  step_counts M (calls.Cancel now token mid) (replies.Cancel outcome) s all = sent_counts _ outcome s all
  step_counts M (calls.Sweep now) (replies.Sweep outcome) s all = swept_counts (SweepMeans (issuer_at old (ms_of now)) M) outcome s all
  step_counts M (calls.Send since) (replies.Send outcome) s all = after None s.1 all
  step_counts M (calls.Merge bytes) (replies.Merge outcome) s all = merge_counts old new bytes outcome s all
  step_counts M (calls.Ask now question) (replies.Ask outcome) s all = after None s.1 all
  step_counts M _ _ s all = absurd s

pub histories_count : HistoriesCount
histories_count old new [] is all = subst IsCounted (sym is) all
histories_count old new (entry ∷ entries) is all =
    histories_count is.0 new entries is.2 (step_counts old is.0 (shown_in old.table.state) entry.call entry.reply (is.1 Shown tt) all)
