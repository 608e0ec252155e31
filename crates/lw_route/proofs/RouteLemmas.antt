-- Methods that a resource has, and what a request by one of them is for.
use Rattle.std.proofs.Common.{◌≡◌, ℕ, true, List, Option, Some, None, Result, Ok, refl, sym, subst}
use Rattle.lw_route.specs.declared.method.Method.{Method}
use Rattle.lw_route.specs.declared.method.Method.TheVariants.{Post, Delete}
use Rattle.lw_route.specs.declared.method.Commands.{Commands}
use Rattle.lw_route.specs.declared.method.Commands.TheVariants.{On, Off}
use Rattle.lw_route.specs.declared.method.Allowed.TheVariants as methods
use Rattle.lw_route.specs.declared.error.RouteError.{RouteError}
use Rattle.lw_route.specs.declared.fault.Fault.{Fault}
use Rattle.lw_route.specs.declared.resource.Resource.{Resource}
use Rattle.lw_route.specs.declared.resource.Resource.TheVariants.{Page, Health, Node, Metrics, Registrations, Registration, Observations, ById, ByAddress, ByToken, Changes, Notifications}
use Rattle.lw_route.specs.declared.route.Route.{Route}
use Rattle.lw_route.specs.Methods.{allowed, is_among}
use Rattle.lw_route.specs.Routes.{IsCommandRouteAt, IsRouteAt, Needs}
use Rattle.lw_route.specs.inner.Faults.{IsAnswered}
use Rattle.lw_route.proofs.StepLemmas.{answered_as}

posts : (commands : Commands) (resource : Resource) → allowed commands resource ≡ methods.GetAndPost → resource ≡ Observations
posts On Page e = absurd cc
posts On Health e = absurd cc
posts On Node e = absurd cc
posts On Metrics e = absurd cc
posts On Registrations e = absurd cc
posts On Registration e = absurd cc
posts On Observations e = refl
posts On ById e = absurd cc
posts On ByAddress e = absurd cc
posts On ByToken e = absurd cc
posts On Changes e = absurd cc
posts On Notifications e = absurd cc
posts Off resource e = absurd cc

deletes : (commands : Commands) (resource : Resource) → allowed commands resource ≡ methods.GetAndDelete → resource ≡ ByToken
deletes On Page e = absurd cc
deletes On Health e = absurd cc
deletes On Node e = absurd cc
deletes On Metrics e = absurd cc
deletes On Registrations e = absurd cc
deletes On Registration e = absurd cc
deletes On Observations e = absurd cc
deletes On ById e = absurd cc
deletes On ByAddress e = absurd cc
deletes On ByToken e = refl
deletes On Changes e = absurd cc
deletes On Notifications e = absurd cc
deletes Off resource e = absurd cc

-- what is done by POST, where the resource has it
pub posted : (commands : Commands) (method : Method) (resource : Resource) (segment : List ℕ) (query : Option (List ℕ)) (r : Result Route Fault) → allowed commands resource ≡ methods.GetAndPost → method ≡ Post → IsAnswered (IsCommandRouteAt Observations segment query) r → IsAnswered (IsRouteAt commands method resource segment query) r
posted commands method resource segment query r has is_post is =
    answered_as (IsCommandRouteAt Observations segment query) (IsRouteAt commands method resource segment query) r
    (λ answer order. record {
      not_allowed = λ no. let yes : is_among method (allowed commands resource) ≡ true = subst (λ x. is_among x (allowed commands resource) ≡ true) (sym is_post) (subst (λ x. is_among Post x ≡ true) (sym has) refl) in absurd cc;
      query_route = λ get. absurd cc;
      command_route = λ _ _. subst (λ x. IsCommandRouteAt x segment query answer)
          (sym (posts commands resource has)) order;
    })
    is

-- and by DELETE
pub deleted : (commands : Commands) (method : Method) (resource : Resource) (segment : List ℕ) (query : Option (List ℕ)) (r : Result Route Fault) → allowed commands resource ≡ methods.GetAndDelete → method ≡ Delete → IsAnswered (IsCommandRouteAt ByToken segment query) r → IsAnswered (IsRouteAt commands method resource segment query) r
deleted commands method resource segment query r has is_delete is =
    answered_as (IsCommandRouteAt ByToken segment query) (IsRouteAt commands method resource segment query) r
    (λ answer order. record {
      not_allowed = λ no. let yes : is_among method (allowed commands resource) ≡ true = subst (λ x. is_among x (allowed commands resource) ≡ true) (sym is_delete) (subst (λ x. is_among Delete x ≡ true) (sym has) refl) in absurd cc;
      query_route = λ get. absurd cc;
      command_route = λ _ _. subst (λ x. IsCommandRouteAt x segment query answer)
          (sym (deletes commands resource has)) order;
    })
    is

-- a parameter that has to be given, and is
pub needed : {V : Type 0} (given : Option V) (error : RouteError) (value : V) → given ≡ Some value → Needs given error (Ok value)
needed None error value e = absurd cc
needed (Some other) error value e = let same : other ≡ value = cc in subst (λ x. Needs (Some other) error (Ok x)) same refl
