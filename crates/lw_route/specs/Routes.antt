-- What a request is for, by its method and the path and query of its target (RFC 9110, sections 7.1 and 9.3).
use Rattle.std.specs.Prelude.{◌≡◌, ◌≢◌, ℕ, true, false, List, Option, Some, None, Result, Ok, Err}
use Rattle.lw_route.specs.declared.method.Method.{Method}
use Rattle.lw_route.specs.declared.method.Method.TheVariants.{Get}
use Rattle.lw_route.specs.declared.method.Commands.{Commands}
use Rattle.lw_route.specs.declared.error.RouteError.{RouteError}
use Rattle.lw_route.specs.declared.error.RouteError.TheVariants as error
use Rattle.lw_route.specs.declared.resource.Resource.{Resource}
use Rattle.lw_route.specs.declared.resource.Resource.TheVariants.{Observations, ByToken}
use Rattle.lw_route.specs.declared.parameters.Form.TheVariants as forms
use Rattle.lw_route.specs.declared.command.Command.{Command}
use Rattle.lw_route.specs.declared.command.Command.TheVariants as command
use Rattle.lw_route.specs.declared.route.Route.{Route}
use Rattle.lw_route.specs.declared.route.Route.TheVariants as route
use Rattle.lw_route.specs.Answers.{Reads, Then}
use Rattle.lw_route.specs.Decoding.{IsShort}
use Rattle.lw_route.specs.Methods.{allowed, allows}
use Rattle.lw_route.specs.Parameters.{AreParameters}
use Rattle.lw_route.specs.Targets.{place_of, Given, IsQueryAt, IsId, IsPathOf}

-- ---- commands
-- the value of a parameter that has to be given
abbrev pub Needs : {V : Type 0} → Option V → RouteError → Result V RouteError → Type 0
Needs (Some value) error answer = answer ≡ Ok value
Needs None error answer = answer ≡ Err error

-- the path of the endpoint that is to be observed, by the parameters of the query
abbrev pub Observes : List ℕ → Option (List ℕ) → Result Command RouteError → Type 0
Observes endpoint query = Then (AreParameters forms.Observing query)
    (λ parameters. Then (Needs parameters.path error.Path)
    (λ path answer. answer ≡ Ok (command.Observe endpoint path parameters.accept)))

-- What is done at the resource with the segment by a method other than GET: first the segment is read, and then the
-- query. Where nothing can be done there is no answer.
abbrev pub IsCommandAt : Resource → List ℕ → Option (List ℕ) → Result Command RouteError → Type 0
IsCommandAt Observations segment query = Then (Reads IsShort error.Endpoint segment)
    (λ endpoint. Observes endpoint query)
IsCommandAt ByToken segment query = Then (Reads IsId error.Token segment)
    (λ token. Given forms.Nothing query (λ parameters. command.Cancel token))
IsCommandAt _ segment query = λ answer. ⊥

-- ---- requests
abbrev pub IsQueryRouteAt : Resource → List ℕ → Option (List ℕ) → Result Route RouteError → Type 0
IsQueryRouteAt resource segment query =
    Then (IsQueryAt resource segment query) (λ api_query answer. answer ≡ Ok (route.Query api_query))

abbrev pub IsCommandRouteAt : Resource → List ℕ → Option (List ℕ) → Result Route RouteError → Type 0
IsCommandRouteAt resource segment query =
    Then (IsCommandAt resource segment query) (λ command answer. answer ≡ Ok (route.Command command))

-- what a request for the resource with the segment is for
pub record IsRouteAt (commands : Commands) (method : Method) (resource : Resource) (segment : List ℕ)
    (query : Option (List ℕ)) (answer : Result Route RouteError) : Type 0 where
  pub not_allowed : allows commands resource method ≡ false
      → answer ≡ Err (error.MethodNotAllowed (allowed commands resource))
  pub query_route : method ≡ Get → IsQueryRouteAt resource segment query answer
  pub command_route : allows commands resource method ≡ true → method ≢ Get
      → IsCommandRouteAt resource segment query answer

-- what a request comes to; each path is of one resource at most
pub record IsRoute (commands : Commands) (method : Method) (path : List ℕ) (query : Option (List ℕ))
    (answer : Result Route RouteError) : Type 0 where
  pub no_resource : ((resource : Resource) (segment : List ℕ) → ¬ IsPathOf (place_of resource) segment path)
      → answer ≡ Err error.NoResource
  pub at_resource : (resource : Resource) (segment : List ℕ) → IsPathOf (place_of resource) segment path
      → IsRouteAt commands method resource segment query answer
