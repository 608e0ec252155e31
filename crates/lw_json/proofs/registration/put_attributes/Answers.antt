use Rattle.lw_json.proofs.TokenLemmas.{one, ◌⨾◌}
use Rattle.lw_json.proofs.registration.put_attributes.Goals as goal

pub returns : goal.returns
returns c = one c.in_ok-key.ensures ⨾ one c.in_ok-begin_object.ensures ⨾ c.put_pairs.ensures
