use Rattle.std.proofs.Common.{rules}
use Rattle.lw_link.proofs.checking.well_formed.Goals as goal

pub returns-else-links-le-MAX_LINKS : goal.returns-else-links-le-MAX_LINKS
returns-else-links-le-MAX_LINKS c = search rules

pub returns-then-links-le-MAX_LINKS : goal.returns-then-links-le-MAX_LINKS
returns-then-links-le-MAX_LINKS c = search rules
