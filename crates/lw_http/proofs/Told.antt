-- The calls of a service, as calls of the API in it.
use Rattle.std.proofs.Common.{◌≡◌, List, [], ◌∷◌, ap, subst, sym}
use Rattle.std.specs.Prelude.{◌++◌, Option}
use Rattle.http_server.specs.Exchange.{Call, Chain}
use Rattle.lw_route.specs.declared.api_query.ApiQuery.{ApiQuery}
use Rattle.lw_route.specs.declared.command.Command.{Command}
use Rattle.lw_route.specs.declared.api.ApiResponse.{ApiResponse}
use Rattle.lw_http.specs.declared.service.ApiService.{ApiService}
use Rattle.lw_http.specs.Verdicts.{IsTold}

-- where each call keeps the access policy and tells what it is to tell, the APIs do so one after another
pub told_all : {S : Type 0} (MayAnswer : S → ApiQuery → ApiResponse → Type 0)
    (MayDo : S → Command → Option ApiResponse → S → Type 0) (calls : List Call) (old new : ApiService S)
    → Chain (λ before request response after. (after.policy ≡ before.policy) × IsTold before.policy.now MayAnswer MayDo before.api request response after.api) old calls new
    → Chain (IsTold old.policy.now MayAnswer MayDo) old.api calls new.api
told_all MayAnswer MayDo [] old new x = ap (λ service. service.api) x
told_all MayAnswer MayDo (c ∷ calls) old new x =
    (x.0.api, x.1.1, subst (λ policy. Chain (IsTold policy.now MayAnswer MayDo) x.0.api calls new.api) x.1.0 (told_all MayAnswer MayDo calls x.0 new x.2))

-- what stands behind nothing is all
pub begun : {X : Type 0} (P : List X → Type 0) (before after more : List X) → after ≡ before ++ more → before ≡ [] → P more
    → P after
begun P before after more e none p = subst P (sym (subst (λ l. after ≡ l ++ more) none e)) p
