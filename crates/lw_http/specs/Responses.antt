-- The response to a request: its status code, its fields and its body (RFC 9110, section 15; RFC 8259).
use Rattle.std.specs.Prelude.{◌≡◌, ◌⊎◌, ℕ, List, [], ◌∷◌, ◌++◌, codes, string_bytes, Option, Some, None, Result, Ok, Err}
use Rattle.http1.specs.Fields.{Header}
use Rattle.http_server.specs.declared.response.Response.{Response}
use Rattle.http_server.specs.Response.{IsResponse}
use Rattle.lw_route.specs.declared.api_query.ApiQuery.{ApiQuery}
use Rattle.lw_route.specs.declared.command.Command.{Command}
use Rattle.lw_route.specs.declared.api.ApiResponse.{ApiResponse}
use Rattle.lw_route.specs.declared.api.Media.{Media}
use Rattle.lw_route.specs.declared.api.Media.TheVariants.{Json, Html, Metrics, Nothing}
use Rattle.lw_route.specs.declared.api.Status.{Status}
use Rattle.lw_route.specs.declared.api.Status.TheVariants as status
use Rattle.lw_route.specs.declared.route.Route.{Route}
use Rattle.lw_route.specs.declared.route.Route.TheVariants as route
use Rattle.lw_route.specs.declared.error.RouteError.{RouteError}
use Rattle.lw_route.specs.declared.error.RouteError.TheVariants.{MethodNotAllowed}
use Rattle.lw_route.specs.Methods.{methods_text}
use Rattle.lw_route.specs.Errors.{status_of, text_of}
use Rattle.lw_http.specs.declared.error.HttpError.{HttpError}
use Rattle.lw_http.specs.declared.error.HttpError.TheVariants.{Misdirected, Unauthorized, FromAnotherSite, Target}

-- ---- fields
-- the connection closes; nothing is kept, and nothing is taken for another type than it is
abbrev pub always : List Header
always = (codes "connection", codes "close") ∷ ((codes "cache-control", codes "no-store")
    ∷ ((codes "x-content-type-options", codes "nosniff") ∷ []))

-- A page runs what stands in it, and reaches nothing but the server that it came from (Content Security Policy Level 3,
-- section 6). It is shown in no frame.
abbrev pub page_policy : List ℕ
page_policy = codes "default-src 'none'; script-src 'unsafe-inline'; style-src 'unsafe-inline'; connect-src 'self'; frame-ancestors 'none'"

-- the type of a body, and what a page may do; where there is no body it has no type
abbrev pub media_fields : Media → List Header
media_fields Json = (codes "content-type", codes "application/json") ∷ []
media_fields Html = (codes "content-type", codes "text/html; charset=utf-8")
    ∷ ((codes "content-security-policy", page_policy) ∷ [])
media_fields Metrics = (codes "content-type", codes "text/plain; version=0.0.4") ∷ []
media_fields Nothing = []

abbrev pub fields_for : Media → List Header → List Header
fields_for media more = always ++ (media_fields media ++ more)

-- ---- refusals
-- the text stands in a JSON object; those of refusals need no escape
abbrev pub error_body : List ℕ → List ℕ
error_body text = codes "{\"error\":\"" ++ (text ++ codes "\"}")

abbrev pub Refuses : ℕ → List Header → List ℕ → Response → Type 0
Refuses code more text = IsResponse code (fields_for Json more) (error_body text)

-- the methods that a resource has, where another one was used
abbrev pub more_for : RouteError → List Header
more_for (MethodNotAllowed allowed) = (codes "allow", methods_text allowed) ∷ []
more_for _ = []

-- for another host, without the token, from another site, or for nothing
abbrev pub error_code : HttpError → ℕ
error_code Misdirected = 421
error_code Unauthorized = 401
error_code FromAnotherSite = 403
error_code (Target route_error) = status_of route_error

abbrev pub error_fields : HttpError → List Header
error_fields Misdirected = []
error_fields Unauthorized = (codes "www-authenticate", codes "Bearer") ∷ []
error_fields FromAnotherSite = []
error_fields (Target route_error) = more_for route_error

abbrev pub error_text : HttpError → List ℕ
error_text Misdirected = codes "not for this host"
error_text Unauthorized = codes "a token is needed"
error_text FromAnotherSite = codes "from another site"
error_text (Target route_error) = text_of route_error

abbrev pub IsErrorResponse : HttpError → Response → Type 0
IsErrorResponse error = Refuses (error_code error) (error_fields error) (error_text error)

-- ---- answers
abbrev pub code_of : Status → ℕ
code_of status.Ok = 200
code_of status.Created = 201
code_of status.NoContent = 204
code_of status.BadRequest = 400
code_of status.NotFound = 404
code_of status.Gone = 410
code_of status.ServiceUnavailable = 503

-- the body that is sent of a text
abbrev pub body_in : Media → List ℕ → List ℕ
body_in Nothing text = []
body_in _ text = text

abbrev pub Gives : ApiResponse → Response → Type 0
Gives answer = IsResponse (code_of answer.status) (fields_for answer.media [])
    (body_in answer.media (string_bytes answer.body))

-- what is told of a command that was carried out: where there is no memory for it, an empty 503
abbrev pub IsToldOf : Option ApiResponse → Response → Type 0
IsToldOf None response = IsResponse 503 [] [] response
IsToldOf (Some answer) response = Gives answer response ⊎ IsResponse 503 [] [] response

-- ---- what is told, by an API that may stand otherwise after it
-- a query and an error leave the API as it was
abbrev pub IsShown : {S : Type 0} → (S → ApiQuery → ApiResponse → Type 0)
    → (S → Command → Option ApiResponse → S → Type 0)
    → S → Result Route HttpError → Response → S → Type 0
IsShown MayAnswer MayDo old (Ok (route.Query api_query)) response new =
    (answer : ApiResponse) × MayAnswer old api_query answer × Gives answer response × (new ≡ old)
IsShown MayAnswer MayDo old (Ok (route.Command command)) response new =
    (answer : Option ApiResponse) × MayDo old command answer new × IsToldOf answer response
IsShown MayAnswer MayDo old (Err error) response new = IsErrorResponse error response × (new ≡ old)
