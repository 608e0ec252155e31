use Rattle.lw_http.proofs.ResultLemmas.{added_twice}
use Rattle.lw_http.proofs.service.add_page.Goals as goal

pub returns-clause-headers : goal.returns-clause-headers
returns-clause-headers c = added_twice c.add_field-2.result _ _ _ _ _ c.in_ok-add_field.ensures.headers c.add_field-2.ensures.headers
