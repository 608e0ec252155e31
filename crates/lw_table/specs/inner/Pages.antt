-- What is found at endpoints that are walked along.
use Rattle.std.specs.Prelude.{◌≡◌, ℕ, List, [], ◌∷◌, ◌++◌, Option, Some, None, filter_map}
use Rattle.lw_reg.specs.Registration.{Registration}

-- the last of these endpoints, if there is one
abbrev pub EndsIn : List (List ℕ) → Option (List ℕ) → Type 0
EndsIn seen None = seen ≡ []
EndsIn seen (Some last) = (front : List (List ℕ)) × (seen ≡ front ++ (last ∷ []))

-- the endpoints up to the last were seen, and the page has what is found at them
pub record IsSeen (found : List ℕ → Option Registration) (all left : List (List ℕ)) (last : Option (List ℕ)) (page : List Registration) : Type 0 where
  pub seen : List (List ℕ)
  pub parts : all ≡ seen ++ left
  pub ends : EndsIn seen last
  pub page_is : page ≡ filter_map found seen

-- the page has what is found up to the next, or at all where there is none
abbrev pub IsFoundUpTo : (List ℕ → Option Registration) → List (List ℕ) → Option (List ℕ) → List Registration → Type 0
IsFoundUpTo found all None page = page ≡ filter_map found all
IsFoundUpTo found all (Some next) page = (left : List (List ℕ)) × IsSeen found all left (Some next) page
