-- The merges so far, and behind them those of the other results, are all.
use Rattle.std.proofs.Common.{◌≡◌, ◌++◌, drop}
use Rattle.lw_serve.specs.Outcomes.{refused_merges as merges_refused}
use Rattle.lw_serve.proofs.outcomes.refused_merges.Given as goal

abbrev pub invariant-loop-done : goal.invariant-loop-done
invariant-loop-done l =
    l.refused.items ++ merges_refused l.jobs l.passes (drop l.done-index l.dones) ≡ merges_refused l.jobs l.passes l.dones
