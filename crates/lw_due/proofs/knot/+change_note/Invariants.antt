use Rattle.std.proofs.Common.{length}
use Rattle.lw_due.specs.Knots.{entries_in}
use Rattle.lw_due.proofs.knot.+change_note.Given as goal

abbrev pub decreases-change_note : goal.decreases-change_note
decreases-change_note l = length (entries_in l.tree.now)
