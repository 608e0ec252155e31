-- The status code of each refusal (RFC 9110, section 15.5: 400 Bad Request, 404 Not Found, 405 Method Not Allowed), and
-- the text that the response has.
use Rattle.std.specs.Prelude.{ℕ, List, codes}
use Rattle.lw_route.specs.declared.error.RouteError.{RouteError}
use Rattle.lw_route.specs.declared.error.RouteError.TheVariants.{NoResource, MethodNotAllowed, Endpoint, Id, Address}
use Rattle.lw_route.specs.declared.error.RouteError.TheVariants.{Token, NoValue, NoParameter, Twice, Limit, After}
use Rattle.lw_route.specs.declared.error.RouteError.TheVariants.{Since, Start, From, Path, Accept}

abbrev pub status_of : RouteError → ℕ
status_of NoResource = 404
status_of (MethodNotAllowed allowed) = 405
status_of _ = 400

abbrev pub text_of : RouteError → List ℕ
text_of NoResource = codes "no such resource"
text_of (MethodNotAllowed allowed) = codes "method not allowed"
text_of Endpoint = codes "endpoint"
text_of Id = codes "id"
text_of Address = codes "address"
text_of Token = codes "token"
text_of NoValue = codes "a parameter without a value"
text_of NoParameter = codes "no such parameter"
text_of Twice = codes "a parameter twice"
text_of Limit = codes "limit"
text_of After = codes "after"
text_of Since = codes "since"
text_of Start = codes "start"
text_of From = codes "from"
text_of Path = codes "path"
text_of Accept = codes "accept"
