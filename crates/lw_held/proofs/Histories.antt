-- Histories that go on.
use Rattle.std.proofs.Common.{◌≡◌, ◌≢◌, ℕ, ◌+◌, List, [], ◌∷◌, ◌++◌, length, Option, Some, None, Result, Ok, Err, refl, sym, ap, ◌∙◌, subst, arith}
use Rattle.lw_reg.specs.declared.op.Op.{Op}
use Rattle.lw_call.specs.declared.call.Call.{Call}
use Rattle.lw_call.specs.declared.merge_fault.MergeFault.{MergeFault}
use Rattle.lw_call.specs.declared.merge_fault.MergeFault.TheVariants as merge_faults
use Rattle.lw_call.specs.declared.reply.Reply.{Reply}
use Rattle.lw_node.specs.Exchange.{Merges}
use Rattle.lw_node.specs.Node.{NodeContent, fresh, marks_in, Leaves}
use Rattle.lw_node.specs.Node.Known.{Shown}
use Rattle.lw_node.specs.Steps.{at_node, IsStep, Steps}
use Rattle.lw_reg.specs.Marks.{Marks}
use Rattle.lw_held.specs.declared.entry.Entry.{Entry}
use Rattle.lw_held.specs.History.{IsBegun, Leads}
use Rattle.lw_held.specs.Laws.{HistoriesFollow}
use Rattle.lw_node.proofs.Carrying.{carried}

-- ---- a step keeps the number
module _ (old new : NodeContent) where
  number_after : (operation : Option Op) → Leaves old operation new → new.number ≡ old.number
  number_after None left = ap (λ (n : NodeContent). n.number) left
  number_after (Some operation) left = left.number

  number_merged : (bytes : List ℕ) (outcome : Result ℕ MergeFault) → Merges old bytes outcome new → new.number ≡ old.number
  number_merged bytes (Ok count) merges = merges.merged.number
  number_merged bytes (Err (merge_faults.Malformed fault)) merges = number_after None merges.1
  number_merged bytes (Err (merge_faults.NoMemory joined)) merges = merges.merged.number

  number_steps : (M : Marks) (call : Call) (reply : Reply) → Steps old M call reply new → new.number ≡ old.number
  number_steps M call reply steps =
      (carried (at_node old M new) (λ same operation. Unit {0}) (λ same bytes outcome. Unit {0})
      (λ operation left. (number_after operation left, tt))
      (λ bytes outcome merges. (number_merged bytes outcome merges, tt)) call reply steps).0

pub step_number : (old : NodeContent) (call : Call) (reply : Reply) (new : NodeContent) → IsStep old call reply new → new.number ≡ old.number
step_number old call reply new step = number_steps old new (marks_in old.table.state Shown) call reply (step Shown tt)

pub leads_number : (old : NodeContent) (entries : List Entry) (new : NodeContent) → Leads old entries new → new.number ≡ old.number
leads_number old [] new leads = ap (λ (n : NodeContent). n.number) leads
leads_number old (entry ∷ entries) new leads = leads_number leads.0 entries new leads.2 ∙ step_number old entry.call entry.reply leads.0 leads.1

-- ---- one after another
pub follow : HistoriesFollow
follow first mid last [] later before after = subst (λ (n : NodeContent). Leads n later last) before after
follow first mid last (entry ∷ earlier) later before after = (before.0, before.1, follow before.0 mid last earlier later before.2 after)

-- ---- one entry more
pub leads_push : (old : NodeContent) (entries : List Entry) (mid : NodeContent) (entry : Entry) (new : NodeContent) → Leads old entries mid → IsStep mid entry.call entry.reply new → Leads old (entries ++ entry ∷ []) new
leads_push old [] mid entry new leads step = (new, subst (λ (n : NodeContent). IsStep n entry.call entry.reply new) leads step, refl)
leads_push old (x ∷ entries) mid entry new leads step = (leads.0, leads.1, leads_push leads.0 entries mid entry new leads.2 step)

-- the journal before, the room for one more, and the journal with the entry of the copied call
pub legal_longer : (opening old new : NodeContent) (journal room longer : List Entry) (pass number : ℕ) (call copy : Call) (reply : Reply) → Leads opening journal old → IsStep old call reply new → copy ≡ call → room ≡ journal
    → longer ≡ room ++ record { pass = pass; number = number; call = copy; reply = reply } ∷ [] → Leads opening longer new
legal_longer opening old new journal room longer pass number call copy reply legal step same kept pushed =
    let entry : Entry = record { pass = pass; number = number; call = copy; reply = reply } in
    let own : IsStep old copy reply new = subst (λ c. IsStep old c reply new) (sym same) step in
    let is : longer ≡ journal ++ entry ∷ [] = pushed ∙ ap (λ (es : List Entry). es ++ entry ∷ []) kept in
    subst (λ es. Leads opening es new) (sym is) (leads_push opening journal old entry new legal own)

-- ---- beginnings
pub new_begun : (first number : ℕ) (node : NodeContent) → node ≡ fresh number → IsBegun first node
new_begun first number node is at = is ∙ ap fresh (sym (ap (λ (n : NodeContent). n.number) is))

-- behind a journal that is not empty nothing begins at place 0
pub never_begun : (first next : ℕ) (journal : List Entry) (node : NodeContent) → next ≡ first + length journal → journal ≢ [] → IsBegun next node
never_begun first next [] node is some at = absurd (some refl)
never_begun first next (entry ∷ entries) node is some at = absurd (omega (arith, is, at))
