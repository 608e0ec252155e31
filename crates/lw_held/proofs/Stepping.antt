-- A history over clock and marks alone is a legal one: what a call means over some marks, it means over all that have the
-- same state.
use Rattle.std.proofs.Common.{◌≡◌, ℕ, List, [], ◌∷◌, Option, Some, None, Result, Ok, Err, sym, refl, ap, ◌∙◌, subst}
use Rattle.std.specs.Prelude.{◌↔◌, Contains}
use Rattle.lw_stamp.specs.declared.stamp.Stamp.{Stamp}
use Rattle.lw_stamp.specs.Moment.{ms_of}
use Rattle.lw_reg.specs.declared.op.Op.{Op}
use Rattle.lw_reg.specs.declared.path.Path.{Path}
use Rattle.lw_reg.specs.declared.slot.Slot.{Slot}
use Rattle.lw_reg.specs.Marks.{Mark, Marks, NamesAll, among, marks_of, traces_of}
use Rattle.lw_reg.specs.Marks.Trace.{Named}
use Rattle.lw_reg.specs.Reading.{shown_in}
use Rattle.lw_reg.specs.State.{state_join, state_of, IsStateOf}
use Rattle.lw_reg.proofs.Members.{first_there}
use Rattle.lw_reg.proofs.Operations.{append_names}
use Rattle.lw_reg.proofs.Same.{members_decide, state_self, state_names}
use Rattle.lw_reg.proofs.States.{state_least}
use Rattle.lw_table.proofs.LookUpLemmas.{marks_tell}
use Rattle.lw_call.specs.declared.call.Call.{Call}
use Rattle.lw_call.specs.declared.call.Call.TheVariants as calls
use Rattle.lw_call.specs.declared.clock_end.ClockEnd.{ClockEnd as NoStamp}
use Rattle.lw_call.specs.declared.merge_fault.MergeFault.{MergeFault}
use Rattle.lw_call.specs.declared.merge_fault.MergeFault.TheVariants.{Malformed, NoMemory}
use Rattle.lw_call.specs.declared.observe_fault.ObserveFault.{ObserveFault}
use Rattle.lw_call.specs.declared.observe_fault.ObserveFault.TheVariants as faults
use Rattle.lw_call.specs.declared.reply.Reply.{Reply}
use Rattle.lw_call.specs.declared.reply.Reply.TheVariants as replies
use Rattle.lw_call.specs.Contents.{OutgoingContent}
use Rattle.lw_node.specs.Calls.{Sent, Swept, issuer_at}
use Rattle.lw_node.specs.Effects.{Issuer, Request, Refused, ObserveMeans, CancelMeans, SweepMeans}
use Rattle.lw_node.specs.Exchange.{Merged, AreShown, state_in}
use Rattle.lw_node.specs.Exchange.{Merges as NodeMerges}
use Rattle.lw_node.specs.Node.{NodeContent, Leaves}
use Rattle.lw_node.specs.Node.Known.{Shown, Told}
use Rattle.lw_node.specs.Steps.{IsStep, Steps as NodeSteps}
use Rattle.lw_world.proofs.Deciding.{Agree, told_agree, id_along, token_along, answers_along}
use Rattle.lw_world.proofs.Freshness.{datagram_along, sweep_along}
use Rattle.lw_held.specs.declared.entry.Entry.{Entry}
use Rattle.lw_held.specs.History.{Leads}
use Rattle.lw_held.specs.Marked.{Marked, node_of, Adds, AddsOr, Brings, Merges, at_marked, Steps, MarksLead}
use Rattle.lw_node.proofs.Carrying.{carried}
use Rattle.lw_node.proofs.Shown.{about_names, marks_shown, shown_names, shown_state, state_append, are_shown}

-- ---- what the same state decides
module _ (M N : Marks) (agree : (now : ℕ) → Agree M N now) where
  observe_along : (place : Issuer) (id : Stamp) (path : Path) (accept : Option ℕ) (mid : ℕ) (outcome : Result (Request × Op) Refused) → ObserveMeans place M id path accept mid outcome → ObserveMeans place N id path accept mid outcome
  observe_along place id path accept mid outcome h = (h.0, id_along M N place.now (agree place.now) id h.0 h.1, h.2)

  cancel_along : (place : Issuer) (token : Stamp) (mid : ℕ) (outcome : Result (Request × Op) Refused) → CancelMeans place M token mid outcome → CancelMeans place N token mid outcome
  cancel_along place token mid outcome h = (h.0, token_along M N place.now (agree place.now) token h.0 h.1, h.2)

  sent_along : (Meant Also : Result (Request × Op) Refused → Type 0) → ((o : Result (Request × Op) Refused) → Meant o → Also o) → (After : Option Op → Type 0) (outcome : Result OutgoingContent ObserveFault) → Sent Meant After outcome → Sent Also After outcome
  sent_along Meant Also also After (Ok outgoing) h = record { request = h.request; operation = h.operation; meant = also _ h.meant; sent = h.sent; left = h.left }
  sent_along Meant Also also After (Err faults.NotFound) h = (also _ h.0, h.1)
  sent_along Meant Also also After (Err faults.ClockEnd) h = (also _ h.0, h.1)
  sent_along Meant Also also After (Err faults.NoMemory) h = ((h.0.0, h.0.1, also _ h.0.2), h.1)

  swept_along : (Meant Also : Result (Option Op) Refused → Type 0) → ((o : Result (Option Op) Refused) → Meant o → Also o) → (After : Option Op → Type 0) (outcome : Result (Option Stamp) NoStamp) → Swept Meant After outcome → Swept Also After outcome
  swept_along Meant Also also After (Ok (Some id)) h = (h.0, also _ h.1, h.2, h.3)
  swept_along Meant Also also After (Ok None) h = (also _ h.0, h.1)
  swept_along Meant Also also After (Err ended) h = (also _ h.0, h.1)

  steps_along : (call : Call) (reply : Reply) (old new : NodeContent) → NodeSteps old M call reply new → NodeSteps old N call reply new
  steps_along (calls.Take now source bytes) (replies.Take (Ok taken)) old new s =
      record { reply = s.reply; operation = s.operation; meant = datagram_along M N (issuer_at old (ms_of now)) (agree (ms_of now)) source bytes _ s.meant; replied = s.replied; left = s.left }
  steps_along (calls.Take now source bytes) (replies.Take (Err refused)) old new s = s
  steps_along (calls.Observe now id path accept mid) (replies.Observe outcome) old new s = sent_along _ _ (observe_along (issuer_at old (ms_of now)) id path accept mid) (λ operation. Leaves old operation new) outcome s
  steps_along (calls.Cancel now token mid) (replies.Cancel outcome) old new s = sent_along _ _ (cancel_along (issuer_at old (ms_of now)) token mid) (λ operation. Leaves old operation new) outcome s
  steps_along (calls.Sweep now) (replies.Sweep outcome) old new s =
      swept_along (SweepMeans (issuer_at old (ms_of now)) M) (SweepMeans (issuer_at old (ms_of now)) N) (sweep_along M N (issuer_at old (ms_of now)) (agree (ms_of now))) (λ operation. Leaves old operation new) outcome s
  steps_along (calls.Send since) (replies.Send outcome) old new s = s
  steps_along (calls.Merge bytes) (replies.Merge outcome) old new s = s
  steps_along (calls.Ask now question) (replies.Ask (Ok answer)) old new s = (answers_along M N (ms_of now) (agree (ms_of now)) old old question answer (λ is. refl) s.0, s.1)
  steps_along (calls.Ask now question) (replies.Ask (Err refused)) old new s =
      ((s.0.0, s.0.1, answers_along M N (ms_of now) (agree (ms_of now)) old old question s.0.0 (λ is. refl) s.0.2), s.1)
  steps_along _ _ old new s = absurd s

-- over all marks that the state is known from
every_step : (ms : List Mark) → NamesAll (among ms) → (old : NodeContent) → IsStateOf ms old.table.state → (call : Call) (reply : Reply) (new : NodeContent) → NodeSteps old (among ms) call reply new → IsStep old call reply new
every_step ms names old is call reply new s Shown h =
    let state = old.table.state in
    steps_along (among ms) (shown_in state) (told_agree (among ms) (shown_in state) names (state_names state) state (marks_tell ms names state is) (state_self state)) call reply old new s
every_step ms names old is call reply new s (Told ns) h =
    let state = old.table.state in
    steps_along (among ms) (among ns) (told_agree (among ms) (among ns) names h.0 state (marks_tell ms names state is) (marks_tell ns h.0 state h.1)) call reply old new s

-- ---- the node that knows what is known
-- lists with the same marks
names_alike : (ms ns : List Mark) → ((m : Mark) → Contains ms m ↔ Contains ns m) → NamesAll (among ns) → NamesAll (among ms)
names_alike ms ns same names e r k h = (same (record { endpoint = e; registration = r; trace = Named })).1 (names e r k ((same (record { endpoint = e; registration = r; trace = k })).0 h))

shown_alike : (slots : List (List ℕ × Slot)) (marks : List Mark) → AreShown slots marks → (m : Mark) → Contains marks m ↔ Contains (marks_shown slots) m
shown_alike slots marks shown m = (λ h. (are_shown slots m).1 ((shown m).0 h), λ h. (shown m).1 ((are_shown slots m).0 h))

module _ (old : Marked) (names : NamesAll (among old.marks)) (new : Marked) where
  -- nothing is changed: so is the node, and all is named
  unchanged : new ≡ old → NamesAll (among new.marks) × (node_of new ≡ node_of old)
  unchanged same = (subst (λ (k : Marked). NamesAll (among k.marks)) (sym same) names, ap node_of same)

  joined : (clock : ℕ) (marks : List Mark) → Adds old clock marks new → state_of new.marks ≡ state_join (state_of old.marks) (state_of marks)
  joined clock marks h = ap state_of h.marks_are ∙ sym (state_append old.marks marks)

  all_named : (clock : ℕ) (marks : List Mark) → Adds old clock marks new → NamesAll (among marks) → NamesAll (among new.marks)
  all_named clock marks h own = subst (λ (ms : List Mark). NamesAll (among ms)) (sym h.marks_are) (append_names old.marks marks names own)

  after : (operation : Option Op) → AddsOr old operation new → NamesAll (among new.marks) × Leaves (node_of old) operation (node_of new)
  after None h = unchanged h
  after (Some operation) h = (
    all_named _ (marks_of operation) h (about_names operation.endpoint operation.reg (Named ∷ traces_of operation.stamp operation.what) (first_there Named (traces_of operation.stamp operation.what) Named refl)),
    record { number = h.number; clock = h.clock_is; state = joined _ (marks_of operation) h; count = h.count },
  )

  merged : (clock : ℕ) (slots : List (List ℕ × Slot)) → Brings old clock slots new → NamesAll (among new.marks) × Merged (node_of old) clock slots (node_of new)
  merged clock slots h =
      let same = shown_alike slots h.marks h.shown in
      let state : state_of h.marks ≡ state_in slots =
      members_decide h.marks (marks_shown slots) same (state_of h.marks) (state_of (marks_shown slots)) (state_least h.marks) (state_least (marks_shown slots)) ∙ sym (shown_state slots) in (
        all_named _ h.marks h.adds (names_alike h.marks (marks_shown slots) same (shown_names slots)),
        record { number = h.adds.number; clock_is = h.adds.clock_is; state = joined _ h.marks h.adds ∙ ap (state_join (state_of old.marks)) state; count = h.adds.count },
      )

  merges : (bytes : List ℕ) (outcome : Result ℕ MergeFault) → Merges old bytes outcome new → NamesAll (among new.marks) × NodeMerges (node_of old) bytes outcome (node_of new)
  merges bytes (Ok count) h =
      let left = merged h.0.clock h.0.slots h.3 in
      (left.0, record { delta = h.0; spelled = h.1; counted = h.2; merged = left.1 })
  merges bytes (Err (Malformed fault)) h =
      let left = unchanged h.1 in
      (left.0, (h.0, left.1))
  merges bytes (Err (NoMemory count)) h =
      let left = merged h.0.clock _ h.3 in
      (left.0, record { delta = h.0; spelled = h.1; fewer = h.2; merged = left.1 })

  -- the node after a step, and that all is named then
  stepped : (call : Call) (reply : Reply) → Steps old call reply new → NamesAll (among new.marks) × NodeSteps (node_of old) (among old.marks) call reply (node_of new)
  stepped = carried (at_marked old new) (λ named operation. Leaves (node_of old) operation (node_of new)) (λ named bytes outcome. NodeMerges (node_of old) bytes outcome (node_of new)) after merges

-- ---- a history
pub marks_lead : (entries : List Entry) (old : Marked) → NamesAll (among old.marks) → (new : Marked) → MarksLead old entries new → Leads (node_of old) entries (node_of new)
marks_lead [] old names new leads = ap node_of leads
marks_lead (entry ∷ entries) old names new leads =
    let mid = leads.0 in
    let s = stepped old names mid entry.call entry.reply leads.1 in
    (node_of mid, every_step old.marks names (node_of old) (state_least old.marks) entry.call entry.reply (node_of mid) s.1, marks_lead entries mid s.0 new leads.2)
