use Rattle.std.proofs.Common.{◌≡◌, ◌+◌, ◌≤◌, ◌++◌, length, reverse, vec_len, vec_capacity}
use Rattle.lw_join.specs.Entries.{Rises, entries_join}
use Rattle.lw_join.proofs.merge.merge.Given as goal

abbrev pub invariant-loop-entry : goal.invariant-loop-entry
invariant-loop-entry g l = record {
  left : Rises g.K.Ord.cmp l.left.items;
  right : Rises g.K.Ord.cmp l.right.items;
  room : length (entries_join g.K.Ord.cmp g.J.Join.join l.left.items l.right.items) + vec_len l.joined ≤ vec_capacity l.joined;
  moved : entries_join g.K.Ord.cmp g.J.Join.join l.left.items l.right.items ++ reverse l.joined.items ≡ entries_join g.K.Ord.cmp g.J.Join.join l.fn.left.items l.fn.right.items;
}

abbrev pub decreases-loop-entry : goal.decreases-loop-entry
decreases-loop-entry g l = vec_len l.left + vec_len l.right
