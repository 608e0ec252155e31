-- What is told of queries that are looked at one after another.
use Rattle.std.specs.Prelude.{◌≡◌, ℕ, ◌≤◌, List, length, Option, Some, IsSome}
use Rattle.lw_request.specs.Queries.{attribute_given, Parameter, given, Accepts}

-- the queries give some attribute
abbrev pub GivesAttribute : List (List ℕ) → Type 0
GivesAttribute queries = (name : List ℕ) × IsSome (attribute_given name queries)

-- the parameter is given, with a value that it may not have
abbrev pub IsNotAccepted : Parameter → Option (List ℕ) → Type 0
IsNotAccepted parameter given = (value : List ℕ) × (given ≡ Some value) × (Accepts parameter value → ⊥)

-- each parameter, as a Register looks at it
abbrev pub EachIsLookedAt : Parameter → Type 0
EachIsLookedAt parameter = Unit {0}

-- a value that is given has at most this many bytes
abbrev pub IsWithin : ℕ → Option (List ℕ) → Type 0
IsWithin most given = (text : List ℕ) → given ≡ Some text → length text ≤ most
