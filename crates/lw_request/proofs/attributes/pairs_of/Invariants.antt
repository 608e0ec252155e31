use Rattle.std.proofs.Common.{◌≡◌, ◌++◌, length}
use Rattle.lw_request.proofs.attributes.pairs_of.Given as goal

abbrev pub invariant-loop-pair : goal.invariant-loop-pair
invariant-loop-pair l = l.pairs.items ++ l.left.entries ≡ l.fn.gathered.entries

abbrev pub decreases-loop-pair : goal.decreases-loop-pair
decreases-loop-pair l = length l.left.entries
