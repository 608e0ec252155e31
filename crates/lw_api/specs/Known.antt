-- What holds of each set of marks that a state is known from.
use Rattle.lw_reg.specs.Marks.{Marks}
use Rattle.lw_reg.specs.State.{State}
use Rattle.lw_node.specs.Node.{Known, IsKnown, marks_in}

-- it holds of the marks that can be read from the state, and of those that any operations which made it have left
abbrev pub OfKnown : State → (Marks → Type 0) → Type 0
OfKnown state P = (known : Known) → IsKnown state known → P (marks_in state known)
