use Rattle.std.proofs.Common.{◌≡◌, ◌-◌, ◌≤◌, length, take}
use Rattle.lw_reg.proofs.attributes.AttributesView.copied_pairs.Given as goal

abbrev pub invariant-loop-name : goal.invariant-loop-name
invariant-loop-name l = (length l.pairs.items ≤ length l.self) × (l.pairs.items ≡ take (length l.pairs.items) l.self)

abbrev pub decreases-loop-name : goal.decreases-loop-name
decreases-loop-name l = length l.self - length l.pairs.items
