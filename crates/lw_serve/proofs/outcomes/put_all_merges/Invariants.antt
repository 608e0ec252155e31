-- The jobs so far, and behind them the merges of the other results, are all.
use Rattle.std.proofs.Common.{◌≡◌, ◌++◌, drop}
use Rattle.lw_serve.specs.Outcomes.{merges_after_all}
use Rattle.lw_serve.proofs.outcomes.put_all_merges.Given as goal

abbrev pub invariant-loop-done : goal.invariant-loop-done
invariant-loop-done l =
    l.jobs.items ++ merges_after_all l.nodes l.passes (drop l.done-index l.dones) ≡ l.initial.jobs.items ++ merges_after_all l.nodes l.passes l.dones
