-- Lines of a login.
use Rattle.std.specs.Prelude.{◌≡◌, ◌≢◌, ◌⊎◌, ℕ, List, [], ◌∷◌, ◌++◌, All}
use Rattle.lw_redis_log.specs.Logins.{IsPart, IsEnd}

-- a line without its line feed, and what it is without a carriage return
abbrev pub IsReturned : List ℕ → List ℕ → Type 0
IsReturned line part = (line ≡ part) ⊎ (line ≡ part ++ 13 ∷ [])

-- it is so of what was found, and of no other part
pub record IsPartOf (Of : List ℕ → Type 0) (found : List ℕ) : Type 0 where
  pub is : Of found
  pub only : (part : List ℕ) → IsPart part → Of part → part ≡ found

-- bytes of a line that may lack its end
abbrev pub IsLast : List ℕ → List ℕ → Type 0
IsLast bytes part = (last : List ℕ) × ((last ≡ []) ⊎ IsEnd last) × (bytes ≡ part ++ last)

-- what stands before the first line feed, and behind it
pub record IsFirstLine (bytes line behind : List ℕ) : Type 0 where
  pub no_feed : All (λ byte. byte ≢ 10) line
  pub written : bytes ≡ line ++ 10 ∷ behind
