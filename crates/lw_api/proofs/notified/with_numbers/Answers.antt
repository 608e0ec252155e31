use Rattle.std.proofs.Common.{◌≡◌, ◌+◌, ◌++◌, ◌∷◌, [], ◌∙◌, ap, sym, take, length, arith}
use Rattle.std.proofs.lemmas.List.{take_more, length-take-le}
use Rattle.lw_api.specs.NotificationBuffer.{BufferedNotificationContent}
use Rattle.lw_api.specs.Notifications.{numbered}
use Rattle.lw_api.proofs.NoticeLemmas.{numbered_more}
use Rattle.lw_api.proofs.notified.with_numbers.Goals as goal

pub loop-notification-preserved : goal.loop-notification-preserved
loop-notification-preserved c =
    let from = c.args.from in
    let number = c.loop-notification.number in
    let list = c.args.list.now in
    let i = c.loop-notification.notification-index in
    let one = c.notification-item.result in
    let below = c.loop-notification-test.true in
    let count : length (take i list) ≡ i = length-take-le i list (omega (arith, below)) in
    let place = c.loop-notification.invariant.number in
    let front : take (i + 1) list ≡ take i list ++ one ∷ [] = take_more list i one below ∙ ap (λ r. take i list ++ r ∷ []) (sym c.notification-item.is) in
    record {
      number = omega (arith, place);
      numbered = c.in_ok-push.ensures.items
          ∙ (λ k. c.loop-notification.invariant.numbered k ++ ap (λ (n : BufferedNotificationContent). numbered number (n ∷ [])) c.notification.view_is k)
          ∙ sym (ap (numbered from) front ∙ numbered_more from number (take i list) one (omega (arith, place, count)));
    }
