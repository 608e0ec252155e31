use Rattle.std.proofs.Common.{◌≡◌, ◌+◌, ◌≤◌, vec_len, vec_capacity}
use Rattle.lw_join.specs.Entries.{Rises, missing, entries_join}
use Rattle.lw_join.proofs.in_place.fill.Given as goal

abbrev pub invariant-loop-key : goal.invariant-loop-key
invariant-loop-key g l = record {
  rises : Rises g.K.Ord.cmp l.into.items;
  room : vec_len l.into + missing g.K.Ord.cmp l.into.items l.from.items ≤ vec_capacity l.into;
  joined : entries_join g.K.Ord.cmp g.J.Join.join l.into.items l.from.items ≡ entries_join g.K.Ord.cmp g.J.Join.join l.fn.into.items l.fn.from.items;
}

abbrev pub decreases-loop-key : goal.decreases-loop-key
decreases-loop-key g l = vec_len l.from
