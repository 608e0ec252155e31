use Rattle.std.proofs.Common.{◌≡◌, fold, take}
use Rattle.lw_metrics.specs.Counting.{with_call}
use Rattle.lw_metrics.proofs.tally.Tally.count_calls.Given as goal

abbrev pub invariant-loop-call : goal.invariant-loop-call
invariant-loop-call l = l.self ≡ fold with_call l.initial.self (take l.call-index l.calls)
