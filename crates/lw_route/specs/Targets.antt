-- What a request asks for, by the path and query of its target (RFC 9110, sections 7.1 and 9.3.1).
use Rattle.std.specs.Prelude.{◌≡◌, ◌≢◌, ◌≤◌, ◌++◌, ℕ, Bool, true, false, List, [], ◌∷◌, length, Option, Some, None, Result, Ok, codes}
use Rattle.std.specs.List.{All}
use Rattle.std.specs.Option.{unwrap_or}
use Rattle.lw_stamp.specs.declared.stamp.Stamp.{Stamp}
use Rattle.lw_stamp.specs.Stamp.{id_of}
use Rattle.lw_reg.specs.declared.addr.Addr.{Addr}
use Rattle.lw_reg.specs.declared.path.Path.{Path}
use Rattle.lw_reg.specs.Addr.{addr_text, IsAddr}
use Rattle.lw_path.specs.PathText.{IsPath}
use Rattle.lw_route.specs.declared.error.RouteError.{RouteError}
use Rattle.lw_route.specs.declared.error.RouteError.TheVariants as error
use Rattle.lw_route.specs.declared.resource.Resource.{Resource}
use Rattle.lw_route.specs.declared.resource.Resource.TheVariants.{Page, Health, Node, Metrics, Registrations, Registration, Observations, ById, ByAddress, ByToken, Changes, Notifications}
use Rattle.lw_route.specs.declared.api_query.ApiQuery.{ApiQuery}
use Rattle.lw_route.specs.declared.api_query.ApiQuery.TheVariants as api_query
use Rattle.lw_route.specs.declared.parameters.Form.{Form}
use Rattle.lw_route.specs.declared.parameters.Form.TheVariants as forms
use Rattle.lw_route.specs.declared.parameters.Parameters.{Parameters}
use Rattle.lw_route.specs.Answers.{Reads, Then}
use Rattle.lw_route.specs.Decoding.{IsDecoded, IsShort}
use Rattle.lw_route.specs.Parameters.{AreParameters}

-- ---- paths
-- where a resource stands: at a path; at each path that has one segment more; or under a name below each of those
pub data Place : Type 0 where
  At : List ℕ → Place
  Below : List ℕ → Place
  Within : List ℕ → List ℕ → Place

abbrev pub place_of : Resource → Place
place_of Page = At (codes "/")
place_of Health = At (codes "/v1/health")
place_of Node = At (codes "/v1/node")
place_of Metrics = At (codes "/metrics")
place_of Registrations = At (codes "/v1/registrations")
place_of Registration = Below (codes "/v1/registrations")
place_of Observations = Within (codes "/v1/registrations") (codes "observations")
place_of ById = Below (codes "/v1/ids")
place_of ByAddress = Below (codes "/v1/addresses")
place_of ByToken = Below (codes "/v1/tokens")
place_of Changes = At (codes "/v1/changes")
place_of Notifications = At (codes "/v1/notifications")

abbrev pub slash : ℕ
slash = 47

-- the path is the upper one, `/`, and a segment that is not empty (RFC 3986, section 3.3: `segment-nz`)
pub record IsBelow (upper segment path : List ℕ) : Type 0 where
  pub path_is : path ≡ upper ++ slash ∷ segment
  pub some : 1 ≤ length segment
  pub one : All (λ byte. byte ≢ slash) segment

-- the lower name stands below a path that is below the upper one with the segment
pub record IsWithin (upper segment lower path : List ℕ) : Type 0 where
  pub front : List ℕ
  pub segment_is : IsBelow upper segment front
  pub lower_is : IsBelow front lower path

-- the path is of the place, with this as its segment, which is empty where the place has none
abbrev pub IsPathOf : Place → List ℕ → List ℕ → Type 0
IsPathOf (At whole) segment path = (path ≡ whole) × (segment ≡ [])
IsPathOf (Below upper) segment path = IsBelow upper segment path
IsPathOf (Within upper lower) segment path = IsWithin upper segment lower path

-- ---- segments
-- the identifier of a registration, or the token of an observation
abbrev pub IsId : Stamp → List ℕ → Type 0
IsId stamp segment = IsDecoded (id_of stamp) segment

pub record IsAddress (address : Addr) (segment : List ℕ) : Type 0 where
  pub in_range : IsAddr address
  pub decoded : IsDecoded (addr_text address) segment

-- ---- requests
-- a request for the resource may have a text that takes memory to decode: a segment, or the value of `after` or `path`
abbrev pub takes_text : Resource → Bool
takes_text Registrations = true
takes_text Registration = true
takes_text Observations = true
takes_text ById = true
takes_text ByAddress = true
takes_text ByToken = true
takes_text _ = false

-- the path is of a resource for which a text may be decoded
pub record HasText (path : List ℕ) : Type 0 where
  pub resource : Resource
  pub segment : List ℕ
  pub path_is : IsPathOf (place_of resource) segment path
  pub text : takes_text resource ≡ true

-- what the parameters of the query stand for, which is of the form
abbrev pub Given : {V : Type 0} → Form → Option (List ℕ) → (Parameters → V) → Result V RouteError → Type 0
Given form query value = Then (AreParameters form query) (λ parameters answer. answer ≡ Ok (value parameters))

-- the path that the text of `after` spells, if that is given
abbrev pub AfterPath : Option (List ℕ) → Result (Option Path) RouteError → Type 0
AfterPath None answer = answer ≡ Ok None
AfterPath (Some text) answer =
    Then (Reads IsPath error.After text) (λ path answer. answer ≡ Ok (Some path)) answer

-- the observations of the endpoint that the parameters of the query ask for
abbrev pub AreObservationsOf : List ℕ → Option (List ℕ) → Result ApiQuery RouteError → Type 0
AreObservationsOf endpoint query = Then (AreParameters forms.Observations query)
    (λ parameters. Then (AfterPath parameters.after)
    (λ after answer. answer ≡ Ok (api_query.Observations endpoint after (unwrap_or parameters.limit 64))))

-- What is asked for at the resource with the segment: first the segment is read, and then the query. The name of an
-- endpoint has a byte or more, as its segment does.
abbrev pub IsQueryAt : Resource → List ℕ → Option (List ℕ) → Result ApiQuery RouteError → Type 0
IsQueryAt Page segment query = Given forms.Nothing query (λ parameters. api_query.Page)
IsQueryAt Health segment query = Given forms.Nothing query (λ parameters. api_query.Health)
IsQueryAt Node segment query = Given forms.Nothing query (λ parameters. api_query.Node)
IsQueryAt Metrics segment query = Given forms.Nothing query (λ parameters. api_query.Metrics)
IsQueryAt Registrations segment query =
    Given forms.Registrations query
    (λ parameters. api_query.Registrations parameters.after (unwrap_or parameters.limit 64))
IsQueryAt Registration segment query = Then (Reads IsShort error.Endpoint segment)
    (λ endpoint. Given forms.Nothing query (λ parameters. api_query.Registration endpoint))
IsQueryAt Observations segment query = Then (Reads IsShort error.Endpoint segment)
    (λ endpoint. AreObservationsOf endpoint query)
IsQueryAt ById segment query = Then (Reads IsId error.Id segment)
    (λ id. Given forms.Nothing query (λ parameters. api_query.ById id))
IsQueryAt ByAddress segment query = Then (Reads IsAddress error.Address segment)
    (λ address. Given forms.Nothing query (λ parameters. api_query.ByAddress address))
IsQueryAt ByToken segment query = Then (Reads IsId error.Token segment)
    (λ token. Given forms.Nothing query (λ parameters. api_query.ByToken token))
IsQueryAt Changes segment query = Given forms.Changes query
    (λ parameters. api_query.Changes (unwrap_or parameters.since 0) parameters.start (unwrap_or parameters.limit 64))
IsQueryAt Notifications segment query = Given forms.Notifications query
    (λ parameters. api_query.Notifications (unwrap_or parameters.from 0) parameters.start
    (unwrap_or parameters.limit 64))
