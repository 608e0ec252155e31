use Rattle.lw_held.proofs.OfMarks.{nodes_are_of_marks}
use Rattle.lw_held.proofs.laws.nodes_are_of_marks.Goals as goal

pub returns : goal.returns
returns c = nodes_are_of_marks
