use Rattle.std.proofs.Common.{All}
use Rattle.lw_log.specs.inner.Memory.{IsAbove}
use Rattle.lw_log.proofs.memory_log.MemoryLog.page.Given as goal

abbrev pub invariant-loop-entry : goal.invariant-loop-entry
invariant-loop-entry l = All (λ e. IsAbove l.after e.0) l.page.items
