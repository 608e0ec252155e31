use Rattle.std.proofs.Common.{◌≡◌, length}
use Rattle.lw_request.specs.Options.{has_proxy}
use Rattle.lw_request.proofs.options.has_proxy.Given as goal

abbrev pub invariant-loop-option : goal.invariant-loop-option
invariant-loop-option l = has_proxy l.options ≡ has_proxy l.rest

abbrev pub decreases-loop-option : goal.decreases-loop-option
decreases-loop-option l = length l.rest
