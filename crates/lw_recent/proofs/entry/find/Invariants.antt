use Rattle.std.proofs.Common.{◌≢◌, ℕ, Some, ◌<◌, ◌≤◌, length, get_or}
use Rattle.lw_recent.specs.declared.entry.Entry.{Entry}
use Rattle.lw_recent.specs.Entries.{number_of}
use Rattle.lw_recent.specs.inner.Entries.{shown_at}
use Rattle.lw_recent.proofs.entry.find.Given as goal

abbrev pub invariant-loop-index : goal.invariant-loop-index
invariant-loop-index l = record {
  before : (k : ℕ) → k < l.index → shown_at l.entries k ≢ Some (l.number, l.place);
  rest : (k : ℕ) (d : Entry) → l.index ≤ k → k < length l.entries → l.number ≤ number_of (get_or l.entries k d);
}
