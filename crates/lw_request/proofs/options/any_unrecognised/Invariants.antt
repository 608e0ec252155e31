use Rattle.std.proofs.Common.{◌≡◌, length}
use Rattle.std.specs.List.{list_any}
use Rattle.lw_request.specs.Options.{is_unrecognised}
use Rattle.lw_request.proofs.options.any_unrecognised.Given as goal

abbrev pub invariant-loop-option : goal.invariant-loop-option
invariant-loop-option l = list_any is_unrecognised l.options ≡ list_any is_unrecognised l.rest

abbrev pub decreases-loop-option : goal.decreases-loop-option
decreases-loop-option l = length l.rest
