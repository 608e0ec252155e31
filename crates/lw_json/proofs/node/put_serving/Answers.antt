use Rattle.lw_json.proofs.TokenLemmas.{one, ◌⨾◌, done, text_as, number_as}
use Rattle.lw_json.proofs.node.put_serving.Goals as goal

pub returns : goal.returns
returns c = done
    (one c.in_ok-begin_object.ensures
    ⨾ text_as c.counter.ensures c.in_ok-put_text.ensures
    ⨾ number_as c.ms.ensures.value c.in_ok-put_number.ensures
    ⨾ c.in_ok-put_text-2.ensures
    ⨾ c.in_ok-put_text-3.ensures
    ⨾ one c.in_ok-end_object.ensures)
