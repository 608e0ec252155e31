-- The Uri-Queries of a Register and an Update (LwM2M 1.1 Core, section 6.2.1; LwM2M 1.1 Transport, section
-- 6.4.3).
use Rattle.std.specs.Prelude.{◌≡◌, ℕ, ◌+◌, ◌*◌, ◌-◌, ◌<◌, ◌≤◌, ◌⊎◌, ◌==◌, Bool, true, false, IsTrue, IsUtf8, if◌then◌else◌, List, [], ◌∷◌, length, fold, codes, Option, Some, None, bytes_eq}
use Rattle.std.specs.List.{before_first, after_first, AllByRecursion}
use Rattle.std.specs.Option.{option_map}
use Rattle.lw_stamp.specs.TextOrder.{text_cmp}
use Rattle.lw_join.specs.Entries.{Rises, get}
use Rattle.lw_reg.specs.Attribute.{is_attribute_name}
use Rattle.lw_reg.specs.declared.binding.Binding.{Binding}
use Rattle.lw_reg.specs.Binding.{binding_text}
use Rattle.lw_reg.specs.BindingText.{IsBindingText}

-- a query is split at its first `=`; without one its value is empty
abbrev pub name_of : List ℕ → List ℕ
name_of query = before_first (λ c. c == 61) query

abbrev pub value_of : List ℕ → List ℕ
value_of query = after_first (λ c. c == 61) query

abbrev pub later_or : Option (List ℕ) → Option (List ℕ) → Option (List ℕ)
later_or (Some later) earlier = Some later
later_or None earlier = earlier

-- of a repeated name the last query alone counts
abbrev pub last_value : List ℕ → List (List ℕ) → Option (List ℕ)
last_value name [] = None
last_value name (query ∷ queries) =
    later_or (last_value name queries) (if bytes_eq (name_of query) name then Some (value_of query) else None)

-- the value that the queries give to a name, if it is an attribute's
abbrev pub attribute_given : List ℕ → List (List ℕ) → Option (List ℕ)
attribute_given name queries = if is_attribute_name name then last_value name queries else None

-- the attributes that the queries give: of a repeated name the last value, names rising
pub record GiveAttributes (queries : List (List ℕ)) (attributes : List (List ℕ × List ℕ)) : Type 0 where
  pub rise : Rises text_cmp attributes
  pub each : (name : List ℕ) → get text_cmp attributes name ≡ attribute_given name queries

-- the parameters: endpoint, lifetime, version, binding, queue mode, SMS number
pub data Parameter : Type 0 where
  Ep : Parameter
  Lt : Parameter
  Lwm2m : Parameter
  B : Parameter
  Q : Parameter
  Sms : Parameter

abbrev pub parameter_name : Parameter → List ℕ
parameter_name Ep = codes "ep"
parameter_name Lt = codes "lt"
parameter_name Lwm2m = codes "lwm2m"
parameter_name B = codes "b"
parameter_name Q = codes "Q"
parameter_name Sms = codes "sms"

-- the value of a parameter, if it is given
abbrev pub given : Parameter → List (List ℕ) → Option (List ℕ)
given parameter queries = last_value (parameter_name parameter) queries

abbrev pub IsDigit : ℕ → Type 0
IsDigit c = (48 ≤ c) × (c ≤ 57)

-- the number that decimal digits stand for
abbrev pub decimal_value : List ℕ → ℕ
decimal_value text = fold (λ n c. 10 * n + (c - 48)) 0 text

-- a lifetime in seconds: 1 to 10 digits, at most 4294967295
abbrev pub IsLifetime : List ℕ → ℕ → Type 0
IsLifetime text lifetime =
    (1 ≤ length text) × (length text ≤ 10) × AllByRecursion IsDigit text × (lifetime ≡ decimal_value text) × (lifetime < 4294967296)

-- The values that a parameter may have. Any version is accepted here: one that is not spoken has a refusal of
-- its own.
abbrev pub Accepts : Parameter → List ℕ → Type 0
Accepts Ep value = 1 ≤ length value
Accepts Lt value = (lifetime : ℕ) × IsLifetime value lifetime
Accepts Lwm2m value = Unit {0}
Accepts B value = IsBindingText value
Accepts Q value = Unit {0}
Accepts Sms value = Unit {0}

-- an Update has lifetime, binding and SMS number; what else is named is ignored
abbrev pub is_in_update : Parameter → Bool
is_in_update Ep = false
is_in_update Lt = true
is_in_update Lwm2m = false
is_in_update B = true
is_in_update Q = false
is_in_update Sms = true

abbrev pub IsOfUpdate : Parameter → Type 0
IsOfUpdate parameter = IsTrue (is_in_update parameter)

abbrev pub AreTexts : List (List ℕ) → Type 0
AreTexts queries = AllByRecursion IsUtf8 queries

-- a parameter that is looked at has a value that is not accepted
pub record HasBadValue (IsLookedAt : Parameter → Type 0) (queries : List (List ℕ)) : Type 0 where
  pub parameter : Parameter
  pub value : List ℕ
  pub looked_at : IsLookedAt parameter
  pub is_given : given parameter queries ≡ Some value
  pub not_accepted : Accepts parameter value → ⊥

-- A query is not UTF-8; or a parameter that is looked at has a bad value; or the endpoint, where it is looked at, is
-- not given.
abbrev pub HasBadQuery : (Parameter → Type 0) → List (List ℕ) → Type 0
HasBadQuery IsLookedAt queries =
    (AreTexts queries → ⊥) ⊎ (HasBadValue IsLookedAt queries ⊎ (IsLookedAt Ep × (given Ep queries ≡ None)))

-- the value of a parameter that may be absent
abbrev pub IsGiven : {V : Type 0} → (List ℕ → V → Type 0) → Option (List ℕ) → Option V → Type 0
IsGiven Reads None None = Unit {0}
IsGiven Reads (Some text) (Some value) = Reads text value
IsGiven Reads None (Some value) = ⊥
IsGiven Reads (Some text) None = ⊥

-- the parameters of an Update
pub record AreSettings (queries : List (List ℕ)) (lifetime : Option ℕ) (binding : Option Binding) (sms : Option (List ℕ)) : Type 0 where
  pub lifetime_is : IsGiven IsLifetime (given Lt queries) lifetime
  pub binding_is : option_map binding_text binding ≡ given B queries
  pub sms_is : sms ≡ given Sms queries
