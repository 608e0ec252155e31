use Rattle.std.proofs.Common.{ap}
use Rattle.lw_reg.specs.Registration.{Registration}
use Rattle.lw_server.specs.Server.{ServerContent}
use Rattle.lw_server.proofs.Reached.{if_err, if_ok, may_have_observed, observed_shown}
use Rattle.lw_server.proofs.Turns.{writes_none}
use Rattle.lw_server.proofs.server.Server.observe.Goals as goal

pub returns-clause-observed : goal.returns-clause-observed
returns-clause-observed g c =
    if_ok _ (observed_shown c.args.endpoint.now _ c.args.path c.args.accept c.args.self.now _ _ c.self.inside.latest
    c.in-Some-by_endpoint.shown _ c.in-Some.ensures.none.1 (ap (λ (server : ServerContent). server.latest) c.self.view_is)
    c.in-Some.ensures.node c.as_str.ensures c.in-Some-by_endpoint.ensures.read
    (ap (λ (r : Registration). r.id) c.shown.view_is)) c.observe_shown.ensures.observed

pub returns-clause-failed : goal.returns-clause-failed
returns-clause-failed g c =
    if_err _ (may_have_observed c.args.endpoint.now _ c.args.path c.args.self.now _ _ c.self.inside.latest
    c.in-Some-by_endpoint.shown _ _ (ap (λ (server : ServerContent). server.latest) c.self.view_is)
    c.in-Some.ensures.node c.as_str.ensures c.in-Some-by_endpoint.ensures.read
    (ap (λ (r : Registration). r.id) c.shown.view_is) c.token_on-before.ensures) c.observe_shown.ensures.failed

pub returns-in_default-clause-own : goal.returns-in_default-clause-own
returns-in_default-clause-own g c = writes_none _

pub returns-in_default-by_endpoint-clause-own : goal.returns-in_default-by_endpoint-clause-own
returns-in_default-by_endpoint-clause-own g c = writes_none _
