use Rattle.std.proofs.Common.{length}
use Rattle.std.specs.Vec.Iter.{into_iter_items}
use Rattle.lw_api.specs.NotificationBuffer.{HasRoom}
use Rattle.lw_api_tests.proofs.notification_buffer.note_all.Given as goal

abbrev pub invariant-loop-notification : goal.invariant-loop-notification
invariant-loop-notification l =
    (goal.iterator-loop-notification).can_next l.notification-iterator ×
    (goal.iterator-loop-notification).is_finite l.notification-iterator ×
    HasRoom l.buffer (length (into_iter_items l.notification-iterator))
