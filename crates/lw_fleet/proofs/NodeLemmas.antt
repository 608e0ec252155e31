-- A new node knows of no operation, and after one operation of that one.
use Rattle.std.proofs.Common.{ℕ, [], ◌∷◌, Option, Some, None, Result, Ok, Err, sym, subst, ◌∙◌}
use Rattle.std.specs.Prelude.{IfOk}
use Rattle.std.specs.FinMap.{empty}
use Rattle.std.specs.Option.{option_to_list}
use Rattle.lw_join.specs.JoinLaws.{semilattice}
use Rattle.lw_reg.specs.declared.op.Op.{Op}
use Rattle.lw_reg.specs.Marks.{all_marks, marks_of}
use Rattle.lw_reg.specs.State.{IsStateOf, state_of}
use Rattle.lw_reg.proofs.Operations.{all_names}
use Rattle.lw_reg.proofs.States.{state_laws, state_least, state_union}
use Rattle.lw_node.specs.Node.{NodeContent, fresh, Knows, Leaves}

pub knows_none : (number : ℕ) → Knows (fresh number) (all_marks [])
knows_none number = (all_names [], state_least [])

pub knows_after : (number : ℕ) (o : Option Op) (node : NodeContent) → Leaves (fresh number) o node → Knows node (all_marks (option_to_list o))
knows_after number None node h = subst (λ (n : NodeContent). Knows n (all_marks [])) (sym h) (knows_none number)
knows_after number (Some op) node h = (
  all_names (op ∷ []),
  subst (IsStateOf (all_marks (op ∷ []))) ((semilattice state_laws).commutative (state_of (marks_of op)) empty ∙ sym h.state)
      (state_union (marks_of op) [] (state_of (marks_of op)) empty (state_least (marks_of op)) (state_least [])),
)

-- what holds of an answer follows from what is promised of it
pub if_ok : {T E : Type 0} (r : Result T E) (P Q : T → Type 0) → IfOk r P → ((t : T) → P t → Q t) → IfOk r Q
if_ok (Ok t) P Q h f = f t h
if_ok (Err e) P Q h f = tt
