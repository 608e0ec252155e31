-- The jobs so far, and behind them those of the other nodes, are all.
use Rattle.std.proofs.Common.{◌≡◌, ◌+◌, ◌++◌, drop, vec_len}
use Rattle.lw_serve.specs.Jobs.{sends_from}
use Rattle.lw_serve.proofs.jobs.send_jobs.Given as goal

abbrev pub invariant-loop-change : goal.invariant-loop-change
invariant-loop-change l = (vec_len l.jobs ≡ l.change-index) × (l.node ≡ l.change-index) × (l.jobs.items ++ sends_from (l.node + 1) (drop l.change-index l.since) ≡ sends_from 1 l.since)
