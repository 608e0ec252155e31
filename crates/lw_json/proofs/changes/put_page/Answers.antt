use Rattle.lw_json.proofs.TokenLemmas.{one, ◌⨾◌, done}
use Rattle.lw_json.proofs.changes.put_page.Goals as goal

pub returns : goal.returns
returns c = done
    (one c.in_ok-begin_object.ensures
    ⨾ c.in_ok-put_changes.ensures
    ⨾ c.in_ok-put_truth.ensures
    ⨾ c.in_ok-put_number.ensures
    ⨾ c.in_ok-put_tag.ensures
    ⨾ one c.in_ok-end_object.ensures)
