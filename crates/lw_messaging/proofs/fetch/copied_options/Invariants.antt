use Rattle.std.proofs.Common.{◌≡◌, take}
use Rattle.lw_messaging.proofs.fetch.copied_options.Given as goal

abbrev pub invariant-loop-option : goal.invariant-loop-option
invariant-loop-option l = l.own.items ≡ take l.option-index l.options
