use Rattle.std.proofs.Common.{◌∙◌}
use Rattle.lw_json.specs.Json.{registration_json}
use Rattle.lw_json.proofs.TokenLemmas.{one, ◌⨾◌, done, text_as, number_as, seen_as}
use Rattle.lw_json.proofs.registration.put_registration.Goals as goal

pub returns : goal.returns
returns c = seen_as registration_json c.shown.view_is (done
    (one c.in_ok-begin_object.ensures
    ⨾ text_as (c.as_str.ensures.value ∙ c.in_ok-address.ensures) c.in_ok-put_text.ensures
    ⨾ c.in_ok-put_attributes.ensures
    ⨾ text_as c.as_str-2.ensures c.in_ok-put_text-2.ensures
    ⨾ c.in_ok-put_text-3.ensures
    ⨾ c.in_ok-put_id.ensures
    ⨾ number_as c.from.ensures c.in_ok-put_number.ensures
    ⨾ text_as c.as_str-3.ensures c.in_ok-put_text-4.ensures
    ⨾ text_as c.as_str-4.ensures.value c.in_ok-put_text-5.ensures
    ⨾ c.in_ok-put_truth.ensures
    ⨾ number_as c.ms.ensures.value c.in_ok-put_number-2.ensures
    ⨾ c.in_ok-put_text_or_null.ensures
    ⨾ one c.in_ok-end_object.ensures))
