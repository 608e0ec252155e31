-- What holds of the marks that can be read and of each list that a state is known from.
use Rattle.std.proofs.Common.{List}
use Rattle.lw_reg.specs.Marks.{Mark, Marks, NamesAll, among}
use Rattle.lw_reg.specs.Reading.{shown_in}
use Rattle.lw_reg.specs.State.{State, IsStateOf}
use Rattle.lw_node.specs.Node.{Shown, Told}
use Rattle.lw_api.specs.Known.{OfKnown}

pub of_known : (state : State) (P : Marks → Type 0) → P (shown_in state) → ((ms : List Mark) → NamesAll (among ms) × IsStateOf ms state → P (among ms)) → OfKnown state P
of_known state P read marks Shown known = read
of_known state P read marks (Told ms) known = marks ms known
