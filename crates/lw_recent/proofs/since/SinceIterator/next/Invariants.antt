use Rattle.std.proofs.Common.{◌≡◌, length}
use Rattle.lw_recent.specs.Entries.{places_in}
use Rattle.lw_recent.proofs.since.SinceIterator.next.Given as goal

abbrev pub invariant-loop-first : goal.invariant-loop-first
invariant-loop-first l = places_in l.self-inside.entries.now ≡ places_in l.initial.self-inside.entries.now

abbrev pub decreases-loop-first : goal.decreases-loop-first
decreases-loop-first l = length l.self-inside.entries.now
