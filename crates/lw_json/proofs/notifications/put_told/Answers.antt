use Rattle.lw_json.proofs.TokenLemmas.{one, ◌⨾◌}
use Rattle.lw_json.proofs.notifications.put_told.Goals as goal

pub returns : goal.returns
returns c = one c.in_ok-key.ensures ⨾ c.put_notice.ensures
