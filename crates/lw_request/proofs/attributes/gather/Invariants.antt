use Rattle.std.proofs.Common.{length}
use Rattle.lw_request.specs.Options.{values_of}
use Rattle.lw_request.proofs.AttributeLemmas.{AreGathered}
use Rattle.lw_request.proofs.attributes.gather.Given as goal

abbrev pub invariant-loop-option : goal.invariant-loop-option
invariant-loop-option l = AreGathered (values_of 15 l.options) (values_of 15 l.rest) l.gathered.entries

abbrev pub decreases-loop-option : goal.decreases-loop-option
decreases-loop-option l = length l.rest
