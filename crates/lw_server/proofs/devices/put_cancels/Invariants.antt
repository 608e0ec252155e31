-- The calls so far, and behind them those of what is left, are all.
use Rattle.std.proofs.Common.{◌≡◌, ◌++◌, drop, map}
use Rattle.lw_server.specs.Stepping.{cancels_of}
use Rattle.lw_server.specs.inner.Devices.{task_of}
use Rattle.lw_server.proofs.devices.put_cancels.Given as goal

abbrev pub invariant-loop-task : goal.invariant-loop-task
invariant-loop-task l =
    l.calls.items ++ cancels_of l.now (map task_of (drop l.task-index l.tasks))
    ≡ l.initial.calls.items ++ cancels_of l.now (map task_of l.tasks)
