-- Places under keys: which are filed under a key.
use Rattle.std.specs.Prelude.{◌≡◌, ℕ, ◌<◌, ◌^◌, List, Contains}

-- the place is filed under the key
abbrev pub IsPlaceOf : {K : Type 0} → List (K × ℕ) → K → ℕ → Type 0
IsPlaceOf pairs key place = Contains pairs (key, place)

-- k and p are the key and the place
abbrev pub IsPairOf : {K : Type 0} → K → ℕ → K → ℕ → Type 0
IsPairOf key place k p = (k ≡ key) × (p ≡ place)

-- each place is a number of four bytes
abbrev pub AreShort : {K : Type 0} → List (K × ℕ) → Type 0
AreShort {K} pairs = (k : K) (p : ℕ) → IsPlaceOf pairs k p → p < 2 ^ 32
