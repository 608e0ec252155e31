use Rattle.std.proofs.Common.{◌≡◌, ◌+◌, drop}
use Rattle.lw_messaging.specs.Kept.{options_weight}
use Rattle.lw_messaging.proofs.body.weight_of_options.Given as goal

abbrev pub invariant-loop-option : goal.invariant-loop-option
invariant-loop-option l = l.weight + options_weight (drop l.option-index l.options) ≡ options_weight l.options
