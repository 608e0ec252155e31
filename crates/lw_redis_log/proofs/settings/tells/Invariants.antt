use Rattle.std.proofs.Common.{ℕ, ◌<◌, drop}
use Rattle.lw_redis_log.specs.inner.Settings.{BeginsWith}
use Rattle.lw_redis_log.proofs.settings.tells.Given as goal

abbrev pub invariant-loop-start : goal.invariant-loop-start
invariant-loop-start l = (k : ℕ) → k < l.start → ¬ BeginsWith l.part (drop k l.text)
