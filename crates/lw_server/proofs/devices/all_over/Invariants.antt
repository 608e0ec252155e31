-- Those before the place are written over, and the rest is as it was.
use Rattle.lw_server.proofs.Marking.{IsMarking}
use Rattle.lw_server.proofs.devices.all_over.Given as goal

abbrev pub invariant-loop-task : goal.invariant-loop-task
invariant-loop-task l = IsMarking l.initial.tasks l.task-index l.tasks
