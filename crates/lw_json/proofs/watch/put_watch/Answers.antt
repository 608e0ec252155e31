use Rattle.lw_json.specs.Json.{watch_json}
use Rattle.lw_json.proofs.TokenLemmas.{one, ◌⨾◌, done, seen_as}
use Rattle.lw_json.proofs.watch.put_watch.Goals as goal

pub returns : goal.returns
returns c = seen_as (λ r. watch_json r c.args.watch.now) c.shown.view_is (done
    (one c.in_ok-begin_object.ensures
    ⨾ c.in_ok-put_short_or_null.ensures
    ⨾ c.in_ok-put_text.ensures
    ⨾ c.in_ok-put_id.ensures
    ⨾ c.in_ok-put_path.ensures
    ⨾ c.in_ok-put_id-2.ensures
    ⨾ one c.in_ok-end_object.ensures))
