use Rattle.lw_json.proofs.TokenLemmas.{one, ◌⨾◌, done}
use Rattle.lw_json.proofs.page.put_page.Goals as goal

pub returns : goal.returns
returns c = done
    (one c.in_ok-begin_object.ensures
    ⨾ c.in_ok-put_text_or_null.ensures
    ⨾ c.in_ok-put_all.ensures
    ⨾ one c.in_ok-end_object.ensures)
