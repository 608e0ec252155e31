use Rattle.std.proofs.Common.{ℕ, List, Option, sym, subst, ◌∙◌, rules, option_copied}
use Rattle.lw_request.specs.Options.{values_of}
use Rattle.lw_request.specs.Queries.{IsGiven, IsLifetime, HasBadQuery}
use Rattle.lw_request.specs.inner.Queries.{EachIsLookedAt}
use Rattle.lw_request.specs.Queries.Parameter.{Ep, Lt, Lwm2m, B, Q, Sms}
use Rattle.lw_request.proofs.QueryLemmas.{on_err, bad_endpoint, bad_settings, lifetime_or}
use Rattle.lw_request.proofs.register.queries_of.Goals as goal

pub returns-in_err-endpoint-clause-err : goal.returns-in_err-endpoint-clause-err
returns-in_err-endpoint-clause-err c =
    let queries = values_of 15 c.args.options.now in
    on_err (HasBadQuery EachIsLookedAt queries) c.from_residual-in_err-endpoint.result
    (bad_endpoint queries (option_copied c.in_ok-parameters.parameters.endpoint) (c.in_ok-parameters.ensures.given Ep) c.in_err-endpoint.ensures.err)

pub returns-in_err-settings-clause-err : goal.returns-in_err-settings-clause-err
returns-in_err-settings-clause-err c =
    let queries = values_of 15 c.args.options.now in
    let found = c.in_ok-parameters.parameters in
    on_err (HasBadQuery EachIsLookedAt queries) c.from_residual-in_err-settings.result
    (bad_settings EachIsLookedAt queries (option_copied found.lifetime) (option_copied found.binding) tt tt (c.in_ok-parameters.ensures.given Lt) (c.in_ok-parameters.ensures.given B) c.in_err-settings.ensures.err)

pub returns-clause-endpoint : goal.returns-clause-endpoint
returns-clause-endpoint c = (sym (c.in_ok-parameters.ensures.given Ep) ∙ c.in_ok-endpoint.ensures.ok.0, c.in_ok-endpoint.ensures.ok.1)

pub returns-clause-version : goal.returns-clause-version
returns-clause-version c = c.in_ok-parameters.ensures.given Lwm2m

pub returns-clause-queue : goal.returns-clause-queue
returns-clause-queue c = rw (← c.in_ok-parameters.ensures.given Q) (search rules)

pub returns-clause-lifetime : goal.returns-clause-lifetime
returns-clause-lifetime c =
    let l = c.in_ok-settings.settings.lifetime in
    let given = subst (λ (o : Option (List ℕ)). IsGiven IsLifetime o l) (c.in_ok-parameters.ensures.given Lt) c.in_ok-settings.ensures.lifetime in
    rw c.unwrap_or.ensures (lifetime_or _ l given)

pub returns-clause-binding : goal.returns-clause-binding
returns-clause-binding c =
    let b = c.in_ok-settings.ensures.binding ∙ c.in_ok-parameters.ensures.given B in
    rw (← b) (search rules)

pub returns-clause-sms : goal.returns-clause-sms
returns-clause-sms c = c.in_ok-settings.ensures.sms ∙ c.in_ok-parameters.ensures.given Sms
