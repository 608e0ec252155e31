use Rattle.std.proofs.Common.{length}
use Rattle.lw_request.specs.Options.{values_of}
use Rattle.lw_request.specs.inner.Parameters.{value_in}
use Rattle.lw_request.proofs.QueryLemmas.{AreGathered}
use Rattle.lw_request.proofs.queries.parameters_of.Given as goal

abbrev pub invariant-loop-option : goal.invariant-loop-option
invariant-loop-option l = AreGathered (values_of 15 l.options) (values_of 15 l.rest) (value_in l.parameters)

abbrev pub decreases-loop-option : goal.decreases-loop-option
decreases-loop-option l = length l.rest
