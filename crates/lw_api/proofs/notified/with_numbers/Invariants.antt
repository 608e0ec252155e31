use Rattle.std.proofs.Common.{◌≡◌, ◌+◌, take}
use Rattle.lw_api.specs.Notifications.{numbered}
use Rattle.lw_api.proofs.notified.with_numbers.Given as goal

abbrev pub invariant-loop-notification : goal.invariant-loop-notification
invariant-loop-notification l = record {
  number : l.number ≡ l.fn.from + l.notification-index;
  numbered : l.notifications.items ≡ numbered l.fn.from (take l.notification-index l.list);
}
