-- The methods of a resource (RFC 9110, sections 9.3 and 10.2.1).
use Rattle.std.specs.Prelude.{ℕ, Bool, true, false, List, codes}
use Rattle.lw_route.specs.declared.method.Method.{Method}
use Rattle.lw_route.specs.declared.method.Method.TheVariants.{Get, Post, Delete}
use Rattle.lw_route.specs.declared.method.Commands.{Commands}
use Rattle.lw_route.specs.declared.method.Commands.TheVariants.{On}
use Rattle.lw_route.specs.declared.method.Allowed.{Allowed}
use Rattle.lw_route.specs.declared.method.Allowed.TheVariants as methods
use Rattle.lw_route.specs.declared.resource.Resource.{Resource}
use Rattle.lw_route.specs.declared.resource.Resource.TheVariants.{Observations, ByToken}

-- as the field `Allow` lists them
abbrev pub methods_text : Allowed → List ℕ
methods_text methods.Get = codes "GET, HEAD"
methods_text methods.GetAndPost = codes "GET, HEAD, POST"
methods_text methods.GetAndDelete = codes "GET, HEAD, DELETE"

-- the methods of the resource: what changes something is among them where commands are taken
abbrev pub allowed : Commands → Resource → Allowed
allowed On Observations = methods.GetAndPost
allowed On ByToken = methods.GetAndDelete
allowed _ _ = methods.Get

-- the method is one of them
abbrev pub is_among : Method → Allowed → Bool
is_among Get _ = true
is_among Post methods.GetAndPost = true
is_among Delete methods.GetAndDelete = true
is_among _ _ = false

-- the resource has the method
abbrev pub allows : Commands → Resource → Method → Bool
allows commands resource method = is_among method (allowed commands resource)
