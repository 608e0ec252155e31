use Rattle.lw_resp.proofs.StreamIdLemmas.{found_id, has_dash, none_id}
use Rattle.lw_resp.proofs.stream_id.read_parts.Goals as goal

pub returns-in-Some-clause-found : goal.returns-in-Some-clause-found
returns-in-Some-clause-found c =
    let dash = has_dash c.args.text.now c.split_at.result.0.now c.split_at.result.1.now c.in-Some.minor.now c.in-Some.field-0-0.now c.args.place c.requires c.split_at.ensures.front c.split_at.ensures.back c.in-Some.ensures.cases.0 in
    found_id c.args.text.now c.split_at.result.0.now c.in-Some.minor.now dash c.of_numbers.result c.of_numbers.ensures.found

pub returns-in-Some-clause-none : goal.returns-in-Some-clause-none
returns-in-Some-clause-none c =
    let dash = has_dash c.args.text.now c.split_at.result.0.now c.split_at.result.1.now c.in-Some.minor.now c.in-Some.field-0-0.now c.args.place c.requires c.split_at.ensures.front c.split_at.ensures.back c.in-Some.ensures.cases.0 in
    none_id c.args.text.now c.split_at.result.0.now c.in-Some.minor.now dash c.of_numbers.result c.of_numbers.ensures.none
