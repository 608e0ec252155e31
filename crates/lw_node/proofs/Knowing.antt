-- What a node knows, from one call to the next.
use Rattle.std.proofs.Common.{◌≡◌, List, [], ◌∷◌, ◌++◌, Some, None, sym, refl, ◌∙◌, subst}
use Rattle.std.specs.Prelude.{◌↔◌, Contains}
use Rattle.lw_join.specs.JoinLaws.{semilattice}
use Rattle.lw_reg.specs.Marks.{Mark, NamesAll, among, marks_of, traces_of}
use Rattle.lw_reg.specs.Marks.Trace.{Named}
use Rattle.lw_reg.specs.State.{State, state_join, state_of, IsStateOf}
use Rattle.lw_reg.proofs.Members.{none_there, first_there}
use Rattle.lw_reg.proofs.Operations.{append_names}
use Rattle.lw_reg.proofs.States.{state_laws, state_least, state_same, state_union}
use Rattle.lw_node.specs.Exchange.{state_in}
use Rattle.lw_node.specs.Laws.{NewKnowsNothing, OperationsAreKnown, MergesAreKnown, SlotsShowMarks}
use Rattle.lw_node.specs.Node.{NodeContent, Knows}
use Rattle.lw_node.proofs.Shown.{about_names, marks_shown, shown_names, shown_state, are_shown}

pub new_knows_nothing : NewKnowsNothing
new_knows_nothing number = (λ e r k h. none_there (record { endpoint = e; registration = r; trace = k }) h, state_least [])

-- marks that are joined to those that are known
known_too : (old new : NodeContent) (ns ms : List Mark) (s : State) → Knows old ms → NamesAll (among ns) → IsStateOf ns s → new.table.state ≡ state_join old.table.state s → Knows new (ns ++ ms)
known_too old new ns ms s knows names is joined = (
  append_names ns ms names knows.0,
  subst (IsStateOf (ns ++ ms)) ((semilattice state_laws).commutative s old.table.state ∙ sym joined) (state_union ns ms s old.table.state is knows.1),
)

pub operations_are_known : OperationsAreKnown
operations_are_known old new None ms knows same = subst (λ (n : NodeContent). Knows n ms) (sym same) knows
operations_are_known old new (Some operation) ms knows issued =
    known_too old new (marks_of operation) ms (state_of (marks_of operation)) knows
    (about_names operation.endpoint operation.reg (Named ∷ traces_of operation.stamp operation.what) (first_there Named (traces_of operation.stamp operation.what) Named refl))
    (state_least (marks_of operation)) issued.state

pub merges_are_known : MergesAreKnown
merges_are_known old new clock slots shown ms knows merged are = known_too old new shown ms (state_in slots) knows names is merged.state
  where
    same : (m : Mark) → Contains shown m ↔ Contains (marks_shown slots) m
    same m = (λ h. (are_shown slots m).1 ((are m).0 h), λ h. (are m).1 ((are_shown slots m).0 h))

    names : NamesAll (among shown)
    names e r k h = (same (record { endpoint = e; registration = r; trace = Named })).1 (shown_names slots e r k ((same (record { endpoint = e; registration = r; trace = k })).0 h))

    is : IsStateOf shown (state_in slots)
    is = state_same (marks_shown slots) shown (λ m. ((same m).1, (same m).0)) (state_in slots) (subst (IsStateOf (marks_shown slots)) (sym (shown_state slots)) (state_least (marks_shown slots)))

pub slots_show_marks : SlotsShowMarks
slots_show_marks slots = (marks_shown slots, are_shown slots)
