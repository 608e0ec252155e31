use Rattle.std.proofs.Common.{length}
use Rattle.lw_delta.specs.Format.{watch}
use Rattle.lw_delta.proofs.Parts.{Walked}
use Rattle.lw_delta.proofs.reading.watches.Given as goal

abbrev pub invariant-loop-entries : goal.invariant-loop-entries
invariant-loop-entries l = Walked (watch l.clock) (λ w. w.0) l.bytes l.entries.items l.after l.rest

abbrev pub decreases-loop-entries : goal.decreases-loop-entries
decreases-loop-entries l = length l.rest
