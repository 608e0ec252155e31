use Rattle.std.proofs.Common.{Ok, ap, refl, subst, ◌∙◌}
use Rattle.lw_route.specs.declared.route.Route.TheVariants as route
use Rattle.lw_http.specs.Verdicts.{IsAuthorized}
use Rattle.lw_http.proofs.ResultLemmas.{on_ok}
use Rattle.lw_http.proofs.service.ApiServiceService.call.Goals as goal

pub returns-in-Ok-Ok-Query-clause-ok : goal.returns-in-Ok-Ok-Query-clause-ok
returns-in-Ok-Ok-Query-clause-ok g c =
    let asks = c.in-Ok-Ok-Query in
    let is_query = asks.field-0-is ∙ ap Ok asks.field-0-0-is in
    on_ok c.respond.result _ _
    (λ told. (
      refl,
      record {
        verdict = Ok (route.Query asks.api_query);
        authorized = subst (IsAuthorized c.args.self.now.policy.now c.args.request.now) is_query asks.ensures;
        shown = (told.0, told.1, told.2, refl);
      },
    ))
    c.respond.ensures
