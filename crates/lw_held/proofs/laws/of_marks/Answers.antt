use Rattle.lw_held.proofs.Marking.{histories_are_of_marks}
use Rattle.lw_held.proofs.laws.of_marks.Goals as goal

pub returns : goal.returns
returns c = histories_are_of_marks
