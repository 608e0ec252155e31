use Rattle.lw_json.proofs.TokenLemmas.{one, ◌⨾◌, done}
use Rattle.lw_json.proofs.watch.put_stale.Goals as goal

pub returns : goal.returns
returns c = done
    (one c.in_ok-begin_object.ensures
    ⨾ c.in_ok-put_text.ensures
    ⨾ c.in_ok-put_id.ensures
    ⨾ one c.in_ok-end_object.ensures)
