use Rattle.std.proofs.Common.{sym, subst, refl, ◌<◌, ℕ, slice_index_or}
use Rattle.lw_server.proofs.Marking.{marking_begins, marking_goes_on}
use Rattle.lw_server.proofs.devices.all_over.Goals as goal

pub loop-task-init : goal.loop-task-init
loop-task-init c = marking_begins _

pub loop-task-preserved : goal.loop-task-preserved
loop-task-preserved c =
    let old = slice_index_or c.loop-task.tasks c.loop-task.task-index c.task-item.result in
    let less = subst (λ (n : ℕ). c.loop-task.task-index < n) (sym c.loop-task.auto.tasks) c.loop-task-test.true in
    marking_goes_on _ _ _ _ old _ c.task-item.result less refl refl c.note_over.ensures c.loop-task.invariant
