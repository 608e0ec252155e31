use Rattle.lw_json.specs.Notifications.{notification_json}
use Rattle.lw_json.proofs.TokenLemmas.{one, ◌⨾◌, done, seen_as}
use Rattle.lw_json.proofs.notifications.put_notification.Goals as goal

pub returns : goal.returns
returns c = seen_as notification_json c.notification.view_is (done
    (one c.in_ok-begin_object.ensures
    ⨾ c.in_ok-put_truth.ensures
    ⨾ c.in_ok-put_told.ensures
    ⨾ c.in_ok-put_number.ensures
    ⨾ one c.in_ok-end_object.ensures))
