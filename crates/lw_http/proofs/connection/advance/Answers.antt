use Rattle.lw_http.proofs.Told.{told_all}
use Rattle.lw_http.proofs.connection.advance.Goals as goal

pub returns-clause-answered : goal.returns-clause-answered
returns-clause-answered g c =
    let calls = c.advance.ensures.calls in
    record { calls = calls.0; behind = calls.1; told = told_all g.A.Api.may_answer g.A.Api.may_do calls.0 _ _ calls.2 }
