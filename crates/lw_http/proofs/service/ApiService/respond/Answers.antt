use Rattle.lw_http.proofs.ResultLemmas.{on_ok}
use Rattle.lw_http.proofs.service.ApiService.respond.Goals as goal

pub returns-in-Ok : goal.returns-in-Ok
returns-in-Ok g c =
    on_ok c.put_answer.result _ _ (λ gives. (c.in-Ok.answer, c.in-Ok.ensures, gives)) c.put_answer.ensures
