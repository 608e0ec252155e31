use Rattle.std.proofs.Common.{◌≡◌, fold, take}
use Rattle.lw_metrics.specs.IoCounters.{together}
use Rattle.lw_metrics.proofs.histogram.total.Given as goal

abbrev pub invariant-loop-count : goal.invariant-loop-count
invariant-loop-count l = l.total ≡ fold together 0 (take l.count-index l.counts)
