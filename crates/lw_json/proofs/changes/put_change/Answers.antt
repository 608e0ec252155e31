use Rattle.lw_json.proofs.TokenLemmas.{one, ◌⨾◌, done}
use Rattle.lw_json.proofs.changes.put_change.Goals as goal

pub returns : goal.returns
returns c = done
    (one c.in_ok-begin_object.ensures
    ⨾ c.in_ok-put_number.ensures
    ⨾ c.in_ok-put_text.ensures
    ⨾ c.in_ok-put_shown.ensures
    ⨾ one c.in_ok-end_object.ensures)
