use Rattle.std.proofs.Common.{length}
use Rattle.std.specs.Option.{option_copied}
use Rattle.lw_delta.specs.Format.{attribute}
use Rattle.lw_delta.proofs.Parts.{Walked}
use Rattle.lw_delta.proofs.reading.attribute_entries.Given as goal

abbrev pub invariant-loop-entries : goal.invariant-loop-entries
invariant-loop-entries l = Walked (attribute l.clock) (λ a. a.0) l.bytes l.entries.items (option_copied l.after) l.rest

abbrev pub decreases-loop-entries : goal.decreases-loop-entries
decreases-loop-entries l = length l.rest
