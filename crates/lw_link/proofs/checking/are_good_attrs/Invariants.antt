use Rattle.std.proofs.Common.{drop}
use Rattle.lw_link.specs.WellFormed.{IsGoodAttr}
use Rattle.lw_link.proofs.Checks.{IsSameAll}
use Rattle.lw_link.proofs.checking.are_good_attrs.Given as goal

abbrev pub invariant-loop-attr : goal.invariant-loop-attr
invariant-loop-attr l = IsSameAll IsGoodAttr (drop l.attr-index l.attrs) l.attrs
