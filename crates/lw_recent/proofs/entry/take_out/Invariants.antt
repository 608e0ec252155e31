use Rattle.std.proofs.Common.{◌≡◌, ◌⊎◌, ℕ, true, false, length, vec_capacity}
use Rattle.std.specs.List.Sorted.{IsNonDecreasingBy}
use Rattle.lw_recent.specs.Entries.{pairs_in, number_of}
use Rattle.lw_recent.specs.inner.Entries.{HasHole}
use Rattle.lw_recent.specs.Recent.{IsUnder, IsPair}
use Rattle.lw_recent.proofs.entry.take_out.Given as goal

abbrev pub invariant-loop-index : goal.invariant-loop-index
invariant-loop-index l = record {
  rises : IsNonDecreasingBy number_of l.entries.items;
  old : (n p : ℕ) → IsUnder (pairs_in l.entries.items) n p → IsUnder (pairs_in l.initial.entries.items) n p;
  rest : (n p : ℕ) → IsUnder (pairs_in l.initial.entries.items) n p → IsUnder (pairs_in l.entries.items) n p ⊎ IsPair l.number l.place n p;
  capacity : vec_capacity l.entries ≡ vec_capacity l.initial.entries;
  hole : l.stood ≡ true → HasHole l.entries.items;
  none : l.stood ≡ false → IsUnder (pairs_in l.initial.entries.items) l.number l.place → IsUnder (pairs_in l.entries.items) l.number l.place;
}

abbrev pub decreases-loop-index : goal.decreases-loop-index
decreases-loop-index l = length (pairs_in l.entries.items)
