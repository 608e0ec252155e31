-- The merges at the nodes so far are behind the jobs that were there.
use Rattle.std.proofs.Common.{◌≡◌, ◌++◌}
use Rattle.lw_serve.specs.Jobs.{merges_of}
use Rattle.lw_serve.proofs.jobs.put_merges.Given as goal

abbrev pub invariant-loop-place : goal.invariant-loop-place
invariant-loop-place l = l.jobs.items ≡ l.initial.jobs.items ++ merges_of l.sender l.delta l.place
