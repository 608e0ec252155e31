use Rattle.lw_json.proofs.TokenLemmas.{one, ◌⨾◌}
use Rattle.lw_json.proofs.changes.put_shown.Goals as goal

pub returns-in-Some : goal.returns-in-Some
returns-in-Some c = rw c.in-Some.is (one c.in_ok-key.ensures ⨾ c.put_registration.ensures)
