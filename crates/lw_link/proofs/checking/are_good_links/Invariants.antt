use Rattle.std.proofs.Common.{drop}
use Rattle.lw_link.specs.WellFormed.{IsGoodLink}
use Rattle.lw_link.proofs.Checks.{IsSameAll}
use Rattle.lw_link.proofs.checking.are_good_links.Given as goal

abbrev pub invariant-loop-link : goal.invariant-loop-link
invariant-loop-link l = IsSameAll IsGoodLink (drop l.link-index l.links) l.links
