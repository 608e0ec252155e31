use Rattle.std.proofs.Common.{length}
use Rattle.lw_due.specs.Knots.{entries_in}
use Rattle.lw_due.proofs.knot.+first_above.Given as goal

abbrev pub decreases-first_above : goal.decreases-first_above
decreases-first_above l = length (entries_in l.tree.now)
