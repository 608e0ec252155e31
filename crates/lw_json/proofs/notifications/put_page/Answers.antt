use Rattle.lw_json.specs.Notifications.{notification_json}
use Rattle.lw_json.proofs.TokenLemmas.{one, ◌⨾◌, done, items_as}
use Rattle.lw_json.proofs.notifications.put_page.Goals as goal

pub returns : goal.returns
returns c = done
    (one c.in_ok-begin_object.ensures
    ⨾ c.in_ok-put_number.ensures
    ⨾ items_as notification_json c.deref.ensures.value c.in_ok-put_all.ensures
    ⨾ c.in_ok-put_tag.ensures
    ⨾ one c.in_ok-end_object.ensures)
