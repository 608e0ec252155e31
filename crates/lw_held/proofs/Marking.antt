-- A legal history is one over clock and marks alone: entry by entry.
use Rattle.std.proofs.Common.{◌≡◌, ℕ, ◌+◌, List, [], ◌∷◌, ◌++◌, take, Option, Some, None, Result, Ok, Err, sym, refl, ap, ◌∙◌, subst}
use Rattle.std.specs.Prelude.{max}
use Rattle.lw_reg.specs.declared.op.Op.{Op}
use Rattle.lw_reg.specs.declared.slot.Slot.{Slot}
use Rattle.lw_reg.specs.Marks.{Mark, NamesAll, among, marks_of, traces_of}
use Rattle.lw_reg.specs.Marks.Trace.{Named}
use Rattle.lw_reg.specs.State.{state_join, state_of, IsStateOf}
use Rattle.lw_reg.proofs.Members.{first_there}
use Rattle.lw_reg.proofs.Operations.{append_names}
use Rattle.lw_reg.proofs.States.{state_least}
use Rattle.lw_table.specs.Changes.{Recounts}
use Rattle.lw_call.specs.declared.call.Call.{Call}
use Rattle.lw_call.specs.declared.merge_fault.MergeFault.{MergeFault}
use Rattle.lw_call.specs.declared.merge_fault.MergeFault.TheVariants.{Malformed, NoMemory}
use Rattle.lw_call.specs.declared.reply.Reply.{Reply}
use Rattle.lw_node.specs.Exchange.{Merged}
use Rattle.lw_node.specs.Exchange.{Merges as NodeMerges}
use Rattle.lw_node.specs.Node.{NodeContent, Leaves}
use Rattle.lw_node.specs.Node.Known.{Told}
use Rattle.lw_node.specs.Steps.{at_node}
use Rattle.lw_node.specs.Steps.{Steps as NodeSteps}
use Rattle.lw_held.specs.declared.entry.Entry.{Entry}
use Rattle.lw_held.specs.History.{Leads}
use Rattle.lw_held.specs.Marked.{Marked, node_of, Adds, AddsOr, Brings, Merges, Steps, MarksLead, HistoriesAreOfMarks}
use Rattle.lw_node.proofs.Carrying.{carried}
use Rattle.lw_held.proofs.Stepping.{marks_lead}
use Rattle.lw_node.proofs.Shown.{about_names, marks_shown, shown_names, shown_state, state_append, are_shown}

-- what is known after a step, of the node that it left
record Left (node : NodeContent) : Type 0 where
  known : Marked
  node_is : node ≡ node_of known
  names : NamesAll (among known.marks)

module _ (old : Marked) (names : NamesAll (among old.marks)) (node : NodeContent) where
  unchanged : node ≡ node_of old → (left : Left node) × (left.known ≡ old)
  unchanged same = (record { known = old; node_is = same; names = names }, refl)

  added : (clock : ℕ) (marks : List Mark) → NamesAll (among marks) → node.number ≡ old.number → node.clock ≡ clock → node.table.state ≡ state_join (state_of old.marks) (state_of marks)
      → Recounts (state_of old.marks) node.table.state old.count node.table.count → (left : Left node) × Adds old clock marks left.known
  added clock marks own number clock_is joined count =
      let state : node.table.state ≡ state_of (old.marks ++ marks) = joined ∙ state_append old.marks marks in (
        record {
          known = record { number = old.number; clock = clock; marks = old.marks ++ marks; count = node.table.count };
          node_is = λ i. record { number = number i; clock = clock_is i; table = record { state = state i; count = node.table.count } };
          names = append_names old.marks marks names own;
        },
        record {
          number = refl;
          clock_is = refl;
          marks_are = refl;
          count = subst (λ s. Recounts (state_of old.marks) s old.count node.table.count) state count;
        },
      )

  -- ---- operations
  after : (operation : Option Op) → Leaves (node_of old) operation node → (left : Left node) × AddsOr old operation left.known
  after None h = unchanged h
  after (Some operation) h = added (old.clock + 1) (marks_of operation) (about_names operation.endpoint operation.reg (Named ∷ traces_of operation.stamp operation.what) (first_there Named (traces_of operation.stamp operation.what) Named refl)) h.number h.clock h.state h.count

  -- ---- deltas
  brings : (clock : ℕ) (slots : List (List ℕ × Slot)) → Merged (node_of old) clock slots node → (left : Left node) × Brings old clock slots left.known
  brings clock slots m =
      let so = added (max old.clock clock) (marks_shown slots) (shown_names slots) m.number m.clock_is (m.state ∙ ap (state_join (state_of old.marks)) (shown_state slots)) m.count in
      (so.0, record { marks = marks_shown slots; shown = are_shown slots; adds = so.1 })

  merges : (bytes : List ℕ) (outcome : Result ℕ MergeFault) → NodeMerges (node_of old) bytes outcome node → (left : Left node) × Merges old bytes outcome left.known
  merges bytes (Ok count) m =
      let so = brings m.delta.clock m.delta.slots m.merged in
      (so.0, (m.delta, m.spelled, m.counted, so.1))
  merges bytes (Err (Malformed fault)) m =
      let so = unchanged m.1 in
      (so.0, (m.0, so.1))
  merges bytes (Err (NoMemory joined)) m =
      let so = brings m.delta.clock (take joined m.delta.slots) m.merged in
      (so.0, (m.delta, m.spelled, m.fewer, so.1))

  -- ---- a call
  steps : (call : Call) (reply : Reply) → NodeSteps (node_of old) (among old.marks) call reply node → (left : Left node) × Steps old call reply left.known
  steps = carried (at_node (node_of old) (among old.marks) node) (λ left operation. AddsOr old operation left.known) (λ left bytes outcome. Merges old bytes outcome left.known) after merges

-- ---- a history
lead : (entries : List Entry) (old : Marked) → NamesAll (among old.marks) → (start node : NodeContent) → start ≡ node_of old → Leads start entries node → (known : Marked) × MarksLead old entries known × (node ≡ node_of known)
lead [] old names start node same leads = (old, refl, leads ∙ same)
lead (entry ∷ entries) old names start node same leads =
    let step = subst (λ (n : NodeContent). NodeSteps n (among old.marks) entry.call entry.reply leads.0) same (leads.1 (Told old.marks) (names, subst (λ (n : NodeContent). IsStateOf old.marks n.table.state) (sym same) (state_least old.marks))) in
    let so = steps old names leads.0 entry.call entry.reply step in
    let rest = lead entries so.0.known so.0.names leads.0 node so.0.node_is leads.2 in
    (rest.0, (so.0.known, so.1, rest.1), rest.2)

pub histories_are_of_marks : HistoriesAreOfMarks
histories_are_of_marks opening entries node names = (
  λ leads. lead entries opening names _ node refl leads,
  λ h. subst (Leads (node_of opening) entries) (sym h.2) (marks_lead entries opening names h.0 h.1),
)
