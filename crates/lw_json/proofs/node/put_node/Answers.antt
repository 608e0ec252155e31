use Rattle.lw_json.proofs.TokenLemmas.{one, ◌⨾◌, done}
use Rattle.lw_json.proofs.node.put_node.Goals as goal

pub returns : goal.returns
returns c = done
    (one c.in_ok-begin_object.ensures
    ⨾ c.in_ok-put_number.ensures
    ⨾ c.in_ok-put_number-2.ensures
    ⨾ c.in_ok-put_short_or_null.ensures
    ⨾ c.in_ok-put_number-3.ensures
    ⨾ c.in_ok-put_tag.ensures
    ⨾ one c.in_ok-end_object.ensures)
