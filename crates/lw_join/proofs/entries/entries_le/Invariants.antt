use Rattle.std.proofs.Common.{ℕ, ◌<◌, get_or, Some}
use Rattle.lw_join.specs.Options.{option_below}
use Rattle.lw_join.specs.Entries.{get}
use Rattle.lw_join.proofs.entries.entries_le.Given as goal

abbrev pub invariant-loop-e : goal.invariant-loop-e
invariant-loop-e g l = (k : ℕ) (d : g.row.K.Denot × g.row.J.Denot) → k < l.e-index → option_below g.J.Join.below (Some (get_or l.left k d).1) (get g.K.Ord.cmp l.right (get_or l.left k d).0)
