-- The sweeps of the nodes so far are behind the jobs that were there.
use Rattle.std.proofs.Common.{◌≡◌, ◌++◌}
use Rattle.lw_serve.specs.Jobs.{sweeps_of}
use Rattle.lw_serve.proofs.jobs.put_sweeps.Given as goal

abbrev pub invariant-loop-swept : goal.invariant-loop-swept
invariant-loop-swept l = l.jobs.items ≡ l.initial.jobs.items ++ sweeps_of l.now l.swept
