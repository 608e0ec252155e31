-- An index is a finite map from keys to sets of texts: the endpoints (LwM2M 1.1 Core, section 6.2.1) that have the key.
-- It is seen as the list of its keys, each with its endpoints.
use Rattle.std.specs.Prelude.{◌≡◌, ◌≢◌, ℕ, List, [], ◌∷◌, Contains, unwrap_or}
use Rattle.std.specs.declared.cmp.Ordering.{Ordering}
use Rattle.std.specs.declared.cmp.Ordering.TheVariants.{Equal}
use Rattle.std.specs.Ordering.{is_eq}
use Rattle.std.specs.List.Sorted.{IsStrictlySortedBy}
use Rattle.std.specs.Map.{keys_of, lookup}

-- the endpoints of the key: those of the entry whose key compares equal, and none where no entry has one
abbrev pub endpoints_of : {K : Type 0} → (K → K → Ordering) → List (K × List (List ℕ)) → K → List (List ℕ)
endpoints_of cmp index key = unwrap_or (lookup (λ k. is_eq (cmp key k)) index) []

-- the endpoint is among those of the key
abbrev pub Has : {K : Type 0} → (K → K → Ordering) → List (K × List (List ℕ)) → K → List ℕ → Type 0
Has cmp index key endpoint = Contains (endpoints_of cmp index key) endpoint

-- k and e are the pair of the key and the endpoint
abbrev pub IsPair : {K : Type 0} → (K → K → Ordering) → K → List ℕ → K → List ℕ → Type 0
IsPair cmp key endpoint k e = (cmp k key ≡ Equal) × (e ≡ endpoint)

-- each key has an endpoint
abbrev pub EachHasEndpoints : {K : Type 0} → List (K × List (List ℕ)) → Type 0
EachHasEndpoints [] = Unit {0}
EachHasEndpoints (entry ∷ entries) = (entry.1 ≢ []) × EachHasEndpoints entries

-- the keys rise, so each stands once, and each has an endpoint
pub record IsIndex {K : Type 0} (cmp : K → K → Ordering) (index : List (K × List (List ℕ))) : Type 0 where
  pub keys_rise : IsStrictlySortedBy cmp (keys_of index)
  pub each_has : EachHasEndpoints index
