use Rattle.std.proofs.Common.{◌≡◌, map, take}
use Rattle.lw_table.specs.Changes.{upto_of}
use Rattle.lw_api.specs.inner.Changes.{moved_of}
use Rattle.lw_api.proofs.changes.upto.Given as goal

abbrev pub invariant-loop-change : goal.invariant-loop-change
invariant-loop-change l = l.upto ≡ upto_of l.fn.since (map moved_of (take l.change-index l.moved))
