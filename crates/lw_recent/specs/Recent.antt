-- Places under the numbers that they took when they moved last: which there are after one is filed, dropped or moved.
use Rattle.std.specs.Prelude.{◌≡◌, ◌↔◌, ◌⊎◌, ◌<◌, ◌≤◌, ℕ, List, Contains, Option, Some, None}

-- n and p are the number and the place
abbrev pub IsPair : ℕ → ℕ → ℕ → ℕ → Type 0
IsPair number place n p = (n ≡ number) × (p ≡ place)

-- p is filed under n
abbrev pub IsUnder : List (ℕ × ℕ) → ℕ → ℕ → Type 0
IsUnder filed n p = Contains filed (n, p)

-- the pair is there as well
abbrev pub Adds : ℕ → ℕ → List (ℕ × ℕ) → List (ℕ × ℕ) → Type 0
Adds number place old new = (n p : ℕ) → IsUnder new n p ↔ (IsUnder old n p ⊎ IsPair number place n p)

-- the pair is not there any more
abbrev pub Drops : ℕ → ℕ → List (ℕ × ℕ) → List (ℕ × ℕ) → Type 0
Drops number place old new = (n p : ℕ) → IsUnder new n p ↔ (IsUnder old n p × (IsPair number place n p → ⊥))

-- the place is under the second number, and not under the first
abbrev pub Moves : ℕ → ℕ → ℕ → List (ℕ × ℕ) → List (ℕ × ℕ) → Type 0
Moves last number place old new = (n p : ℕ) → IsUnder new n p ↔ ((IsUnder old n p × (IsPair last place n p → ⊥)) ⊎ IsPair number place n p)

-- the number is above the given one, if one is
abbrev pub IsAbove : Option ℕ → ℕ → Type 0
IsAbove None n = Unit {0}
IsAbove (Some since) n = since < n

-- the places that are filed under the numbers above the given one, or under any
abbrev pub AreSince : Option ℕ → List (ℕ × ℕ) → List ℕ → Type 0
AreSince since filed places = (p : ℕ) → Contains places p ↔ ((n : ℕ) × IsUnder filed n p × IsAbove since n)

-- the pair is under the least number above the given one; or none is above it
abbrev pub IsNextAbove : ℕ → List (ℕ × ℕ) → Option (ℕ × ℕ) → Type 0
IsNextAbove number filed None = (n p : ℕ) → IsUnder filed n p → n ≤ number
IsNextAbove number filed (Some next) = IsUnder filed next.0 next.1 × (number < next.0) × ((n p : ℕ) → IsUnder filed n p → number < n → next.0 ≤ n)
