-- The parameters of a query: NAME=VALUE, with `&` between each two (RFC 3986, section 3.4, has a query of such pairs).
use Rattle.std.specs.Prelude.{◌≡◌, ◌<◌, ◌==◌, ℕ, Bool, true, false, List, [], ◌∷◌, length, Option, Some, None, Result, Ok, Err, codes}
use Rattle.std.specs.List.{position_or_len, before_first, after_first, slice_split}
use Rattle.lw_route.specs.declared.error.RouteError.{RouteError}
use Rattle.lw_route.specs.declared.error.RouteError.TheVariants as error
use Rattle.lw_route.specs.declared.parameters.Name.{Name}
use Rattle.lw_route.specs.declared.parameters.Name.TheVariants.{After, Limit, Since, Start, From, Path, Accept}
use Rattle.lw_route.specs.declared.parameters.Form.{Form}
use Rattle.lw_route.specs.declared.parameters.Form.TheVariants as forms
use Rattle.lw_route.specs.declared.parameters.Parameters.{Parameters}
use Rattle.lw_route.specs.Answers.{Reads, Then}
use Rattle.lw_route.specs.Decoding.{IsShort, IsPathEncoded}
use Rattle.lw_route.specs.Numbers.{IsSince, IsFrom, IsAccept, IsLimit, IsTag}

abbrev pub is_equals : ℕ → Bool
is_equals byte = byte == 61

abbrev pub is_ampersand : ℕ → Bool
is_ampersand byte = byte == 38

-- ---- names
abbrev pub name_text : Name → List ℕ
name_text After = codes "after"
name_text Limit = codes "limit"
name_text Since = codes "since"
name_text Start = codes "start"
name_text From = codes "from"
name_text Path = codes "path"
name_text Accept = codes "accept"

-- a query of the form takes a parameter of the name
abbrev pub takes : Form → Name → Bool
takes forms.Registrations After = true
takes forms.Registrations Limit = true
takes forms.Observations After = true
takes forms.Observations Limit = true
takes forms.Changes Since = true
takes forms.Changes Start = true
takes forms.Changes Limit = true
takes forms.Notifications From = true
takes forms.Notifications Start = true
takes forms.Notifications Limit = true
takes forms.Observing Path = true
takes forms.Observing Accept = true
takes _ _ = false

-- the part has `=`
abbrev pub HasEquals : List ℕ → Type 0
HasEquals part = position_or_len is_equals part < length part

-- what stands before the first `=` is the name of a parameter of the form
pub record IsNamed (form : Form) (name : Name) (part : List ℕ) : Type 0 where
  pub parted : HasEquals part
  pub taken : takes form name ≡ true
  pub name_is : before_first is_equals part ≡ name_text name

-- ---- values
-- a parameter that was not given before has the value that is read; one that was is refused
abbrev pub IsGivenOnce : {V : Type 0} → Option V → (Result V RouteError → Type 0) → (V → Parameters)
    → Result Parameters RouteError → Type 0
IsGivenOnce (Some value) Reading parameters answer = answer ≡ Err error.Twice
IsGivenOnce None Reading parameters answer = Then Reading (λ value answer. answer ≡ Ok (parameters value)) answer

-- The parameters with this value of the name. Those of `after` and `path` are percent-decoded, where `+` stands for
-- itself; that of `after` may be empty, since all endpoints stand behind it. The others are read as they stand.
abbrev pub IsGiven : Name → Parameters → List ℕ → Result Parameters RouteError → Type 0
IsGiven After before value =
    IsGivenOnce before.after (Reads IsShort error.After value) (λ after. record before { after = Some after })
IsGiven Limit before value =
    IsGivenOnce before.limit (Reads IsLimit error.Limit value) (λ limit. record before { limit = Some limit })
IsGiven Since before value =
    IsGivenOnce before.since (Reads IsSince error.Since value) (λ since. record before { since = Some since })
IsGiven Start before value =
    IsGivenOnce before.start (Reads IsTag error.Start value) (λ start. record before { start = Some start })
IsGiven From before value =
    IsGivenOnce before.from (Reads IsFrom error.From value) (λ from. record before { from = Some from })
IsGiven Path before value =
    IsGivenOnce before.path (Reads IsPathEncoded error.Path value) (λ path. record before { path = Some path })
IsGiven Accept before value =
    IsGivenOnce before.accept (Reads IsAccept error.Accept value) (λ accept. record before { accept = Some accept })

-- ---- parts
-- what the parameters are with one part more
pub record IsPart (form : Form) (before : Parameters) (part : List ℕ) (answer : Result Parameters RouteError)
    : Type 0 where
  pub no_value : ¬ HasEquals part → answer ≡ Err error.NoValue
  pub no_parameter : HasEquals part → ((name : Name) → ¬ IsNamed form name part) → answer ≡ Err error.NoParameter
  pub given : (name : Name) → IsNamed form name part → IsGiven name before (after_first is_equals part) answer

-- the parts from left to right, of which the first that is refused decides
abbrev pub AreParts : Form → Parameters → List (List ℕ) → Result Parameters RouteError → Type 0
AreParts form before [] answer = answer ≡ Ok before
AreParts form before (part ∷ parts) answer =
    Then (IsPart form before part) (λ after. AreParts form after parts) answer

-- no query and an empty one have no parts
abbrev pub parts_of : Option (List ℕ) → List (List ℕ)
parts_of None = []
parts_of (Some []) = []
parts_of (Some (byte ∷ bytes)) = slice_split is_ampersand (byte ∷ bytes)

abbrev pub no_parameters : Parameters
no_parameters =
    record { after = None; limit = None; since = None; start = None; from = None; path = None; accept = None }

-- the parameters that the query gives
abbrev pub AreParameters : Form → Option (List ℕ) → Result Parameters RouteError → Type 0
AreParameters form query = AreParts form no_parameters (parts_of query)
