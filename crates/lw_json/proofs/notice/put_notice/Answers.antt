use Rattle.std.proofs.Common.{◌∙◌, ap}
use Rattle.hex.specs.Hex.{encode_lower}
use Rattle.lw_json.specs.Json.{notice_json}
use Rattle.lw_json.proofs.TokenLemmas.{one, ◌⨾◌, done, text_as, number_as, seen_as}
use Rattle.lw_json.proofs.notice.put_notice.Goals as goal

pub returns : goal.returns
returns c = seen_as notice_json c.notice.view_is (done
    (one c.in_ok-begin_object.ensures
    ⨾ number_as c.from.ensures c.in_ok-put_number.ensures
    ⨾ c.in_ok-put_short_or_null.ensures
    ⨾ c.in_ok-put_truth.ensures
    ⨾ text_as c.as_str.ensures c.in_ok-put_text.ensures
    ⨾ c.in_ok-put_id.ensures
    ⨾ c.in_ok-put_number_or_null.ensures
    ⨾ c.in_ok-put_path.ensures
    ⨾ text_as (c.as_str-2.ensures.value ∙ c.in_ok-payload.ensures ∙ ap encode_lower c.as_slice.ensures.value) c.in_ok-put_text-2.ensures
    ⨾ c.in_ok-put_id-2.ensures
    ⨾ one c.in_ok-end_object.ensures))
