use Rattle.std.proofs.Common.{chars, length}
use Rattle.lw_link.proofs.Parts.{IsTakingLinks}
use Rattle.lw_link.proofs.reading.links.Given as goal

abbrev pub invariant-loop-links : goal.invariant-loop-links
invariant-loop-links l = IsTakingLinks (chars l.text) l.scanner l.links.items

abbrev pub decreases-loop-links : goal.decreases-loop-links
decreases-loop-links l = length l.scanner
