-- What a request comes to: what it is for, or the first cause for which it is told nothing (RFC 9110, section 15.5).
use Rattle.std.specs.Prelude.{◌≡◌, ◌≢◌, ◌⊎◌, ℕ, Bool, true, false, IsFalse, List, codes, Option, Result, Ok, Err}
use Rattle.http.specs.declared.request.Request.{Request}
use Rattle.http.specs.Request.{head_of}
use Rattle.http_server.specs.declared.response.Response.{Response}
use Rattle.http_uri.specs.Uri.{uri_path, uri_query}
use Rattle.lw_route.specs.declared.api_query.ApiQuery.{ApiQuery}
use Rattle.lw_route.specs.declared.command.Command.{Command}
use Rattle.lw_route.specs.declared.api.ApiResponse.{ApiResponse}
use Rattle.lw_route.specs.declared.method.Method.{Method}
use Rattle.lw_route.specs.declared.method.Method.TheVariants.{Get, Post, Delete, Other}
use Rattle.lw_route.specs.declared.route.Route.{Route}
use Rattle.lw_route.specs.declared.error.RouteError.{RouteError}
use Rattle.lw_route.specs.declared.error.RouteError.TheVariants.{NoResource, MethodNotAllowed}
use Rattle.lw_route.specs.Routes.{IsRoute}
use Rattle.lw_http.specs.declared.policy.AccessPolicy.{AccessPolicy}
use Rattle.lw_http.specs.declared.error.HttpError.{HttpError}
use Rattle.lw_http.specs.declared.error.HttpError.TheVariants.{Misdirected, Unauthorized, FromAnotherSite, Target}
use Rattle.lw_http.specs.AccessPolicy.{IsForUs, IsSameOrigin, HasAccess}
use Rattle.lw_http.specs.Responses.{IsShown}

-- HEAD asks for what GET asks for, and the connection leaves its body out
pub record IsMethod (name : List ℕ) (method : Method) : Type 0 where
  pub get : name ≡ codes "GET" → method ≡ Get
  pub head : name ≡ codes "HEAD" → method ≡ Get
  pub post : name ≡ codes "POST" → method ≡ Post
  pub delete : name ≡ codes "DELETE" → method ≡ Delete
  pub other : name ≢ codes "GET" → name ≢ codes "HEAD" → name ≢ codes "POST" → name ≢ codes "DELETE" → method ≡ Other

-- the path or the method is refused before a token is asked for, and before it is asked which site the request is from
abbrev pub is_protected : Result Route RouteError → Bool
is_protected (Err NoResource) = false
is_protected (Err (MethodNotAllowed allowed)) = false
is_protected _ = true

-- the request brings what it needs
abbrev pub MayAccess : AccessPolicy → Request (List ℕ) → Result Route RouteError → Type 0
MayAccess policy request route = IsFalse (is_protected route) ⊎ HasAccess policy request

-- what changes something is from no other site
abbrev pub IsOriginAllowed : Method → Request (List ℕ) → Result Route RouteError → Type 0
IsOriginAllowed method request route = IsFalse (is_protected route) ⊎ ((method ≡ Get) ⊎ IsSameOrigin request)

-- what the target comes to
abbrev pub target_verdict : Result Route RouteError → Result Route HttpError
target_verdict (Ok route) = Ok route
target_verdict (Err route_error) = Err (Target route_error)

-- first the token, then the site, and then the target
pub record IsRouteAuthorized (policy : AccessPolicy) (method : Method) (request : Request (List ℕ))
    (route : Result Route RouteError) (verdict : Result Route HttpError) : Type 0 where
  pub unauthorized : ¬ MayAccess policy request route → verdict ≡ Err Unauthorized
  pub from_another_site : MayAccess policy request route → ¬ IsOriginAllowed method request route
      → verdict ≡ Err FromAnotherSite
  pub allowed : MayAccess policy request route → IsOriginAllowed method request route → verdict ≡ target_verdict route

-- what a request that is for us comes to
pub record IsAuthorizedHere (policy : AccessPolicy) (request : Request (List ℕ))
    (verdict : Result Route HttpError) : Type 0 where
  pub method : Method
  pub named : IsMethod (head_of request).method method
  pub route : Result Route RouteError
  pub is_for : IsRoute policy.commands method (uri_path (head_of request).uri) (uri_query (head_of request).uri)
      route
  pub authorized : IsRouteAuthorized policy method request route verdict

-- The first cause that holds: another host; a path or a method; a token; a site; a parameter. And else what it is for.
pub record IsAuthorized (policy : AccessPolicy) (request : Request (List ℕ))
    (verdict : Result Route HttpError) : Type 0 where
  pub misdirected : ¬ IsForUs policy request → verdict ≡ Err Misdirected
  pub for_us : IsForUs policy request → IsAuthorizedHere policy request verdict

-- what is told to a request, by an API that stands as the second one after it
pub record IsTold {S : Type 0} (policy : AccessPolicy) (MayAnswer : S → ApiQuery → ApiResponse → Type 0)
    (MayDo : S → Command → Option ApiResponse → S → Type 0) (old : S) (request : Request (List ℕ)) (response : Response)
    (new : S) : Type 0 where
  pub verdict : Result Route HttpError
  pub authorized : IsAuthorized policy request verdict
  pub shown : IsShown MayAnswer MayDo old verdict response new
