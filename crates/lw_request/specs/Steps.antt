-- Why a request is refused: the steps in their order, the cause of each, and its reply (LwM2M 1.1 Core, section
-- 6.2; RFC 7252, sections 5.4, 5.7.2, 5.8 and 5.9).
use Rattle.std.specs.Prelude.{◌≡◌, ◌≢◌, ℕ, ◌⊎◌, IsTrue, List, [], ◌∷◌, codes, Some}
use Rattle.lw_coap.specs.Message.{MessageContent}
use Rattle.lw_reg.specs.declared.version.Version.{Version}
use Rattle.lw_reg.specs.Version.{version_text}
use Rattle.lw_request.specs.declared.refusal.Refusal.{Refusal}
use Rattle.lw_request.specs.declared.refusal.Refusal.TheVariants.{BadRequest, BadOption, NotFound, MethodNotAllowed, PreconditionFailed, RequestEntityTooLarge, UnsupportedContentFormat, ProxyingNotSupported}
use Rattle.lw_request.specs.Options.{values_of, has_proxy, has_unrecognised, content_format}
use Rattle.lw_request.specs.Queries.{Parameter, given, IsOfUpdate, HasBadQuery}
use Rattle.lw_request.specs.Queries.Parameter.{Lwm2m}
use Rattle.lw_request.specs.Objects.{IsTooLarge, SpellsNone}

-- the values of Uri-Path, and those of Uri-Query
abbrev pub path_of : MessageContent → List (List ℕ)
path_of m = values_of 11 m.options

abbrev pub queries_of : MessageContent → List (List ℕ)
queries_of m = values_of 15 m.options

abbrev pub IsPost : MessageContent → Type 0
IsPost m = m.code ≡ 2

abbrev pub IsDelete : MessageContent → Type 0
IsDelete m = m.code ≡ 4

-- the path is `rd`, where registrations are made
abbrev pub IsDirectory : MessageContent → Type 0
IsDirectory m = path_of m ≡ codes "rd" ∷ []

-- the path is `rd` and a segment, which names a registration
abbrev pub IsEntry : MessageContent → List ℕ → Type 0
IsEntry m segment = path_of m ≡ codes "rd" ∷ segment ∷ []

-- a POST on `rd`, a POST on an entry, a DELETE on an entry
abbrev pub IsRegister : MessageContent → Type 0
IsRegister m = IsDirectory m × IsPost m

abbrev pub IsUpdate : MessageContent → List ℕ → Type 0
IsUpdate m segment = IsEntry m segment × IsPost m

abbrev pub IsDeregister : MessageContent → List ℕ → Type 0
IsDeregister m segment = IsEntry m segment × IsDelete m

-- a Register looks at each parameter, and an Update at its own
abbrev pub IsLookedAt : MessageContent → Parameter → Type 0
IsLookedAt m parameter = IsDirectory m ⊎ IsOfUpdate parameter

pub data Step : Type 0 where
  Proxied : Step
  UnrecognisedOption : Step
  UnknownPath : Step
  WrongMethod : Step
  WrongFormat : Step
  BadQuery : Step
  OtherVersion : Step
  TooManyLinks : Step
  NoLinks : Step

-- the steps in their order: what every request is asked, where it goes, and what a POST is asked
abbrev pub post_steps : List Step
post_steps = WrongFormat ∷ BadQuery ∷ OtherVersion ∷ TooManyLinks ∷ NoLinks ∷ []

abbrev pub path_steps : List Step
path_steps = UnknownPath ∷ WrongMethod ∷ post_steps

abbrev pub steps : List Step
steps = Proxied ∷ UnrecognisedOption ∷ path_steps

-- the cause of a step
abbrev pub Cause : Step → MessageContent → Type 0
-- a Proxy-Uri or a Proxy-Scheme is present
Cause Proxied m = IsTrue (has_proxy m.options)
-- a critical option is not recognised
Cause UnrecognisedOption m = IsTrue (has_unrecognised m.options)
-- the path is neither `rd` nor `rd` and one segment
Cause UnknownPath m = (IsDirectory m → ⊥) × ((segment : List ℕ) → IsEntry m segment → ⊥)
-- `rd` takes POST, an entry POST and DELETE
Cause WrongMethod m = (IsDirectory m × (IsPost m → ⊥)) ⊎ ((segment : List ℕ) × IsEntry m segment × (IsPost m → ⊥) × (IsDelete m → ⊥))
-- a POST has a Content-Format other than application/link-format, 40
Cause WrongFormat m = IsPost m × ((format : ℕ) × (content_format m.options ≡ Some format) × (format ≢ 40))
-- a POST has a bad query
Cause BadQuery m = IsPost m × HasBadQuery (IsLookedAt m) (queries_of m)
-- a Register has another version than 1.0 and 1.1
Cause OtherVersion m =
    IsRegister m × ((text : List ℕ) × (given Lwm2m (queries_of m) ≡ Some text) × ((version : Version) → text ≢ version_text version))
-- the payload of a POST has more links than an object list, or more bytes than a datagram
Cause TooManyLinks m = IsPost m × IsTooLarge m.payload
-- a Register has no payload, or a POST has one that is no list of links
Cause NoLinks m = IsPost m × ((IsDirectory m × (m.payload ≡ [])) ⊎ ((m.payload ≢ []) × SpellsNone m.payload))

-- the reply of a step: 5.05, 4.02, 4.04, 4.05, 4.15, 4.00, 4.12, 4.13, 4.00
abbrev pub reply_of : Step → Refusal
reply_of Proxied = ProxyingNotSupported
reply_of UnrecognisedOption = BadOption
reply_of UnknownPath = NotFound
reply_of WrongMethod = MethodNotAllowed
reply_of WrongFormat = UnsupportedContentFormat
reply_of BadQuery = BadRequest
reply_of OtherVersion = PreconditionFailed
reply_of TooManyLinks = RequestEntityTooLarge
reply_of NoLinks = BadRequest
