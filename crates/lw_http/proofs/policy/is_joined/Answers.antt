use Rattle.lw_http.proofs.SiteLemmas.{joined, not_joined}
use Rattle.lw_http.proofs.policy.is_joined.Goals as goal

pub returns-in-Some : goal.returns-in-Some
returns-in-Some c = joined c.args.text.now c.args.front.now c.in-Some.behind.now c.args.back.now _ c.in-Some.ensures.cases.0 c.in-Some.ensures.cases.1 c.eq.ensures

pub returns-in-None : goal.returns-in-None
returns-in-None c = not_joined c.args.text.now c.args.front.now c.args.back.now c.in-None.ensures.cases
