-- The names of all devices.
use Rattle.std.specs.Prelude.{◌≡◌, ◌↔◌, ℕ, ◌-◌, List, length, Option, Contains, slice_get}
use Rattle.std.specs.List.Sorted.{IsStrictlySortedBy}
use Rattle.lw_stamp.specs.TextOrder.{text_cmp}
use Rattle.lw_reg.specs.Marks.{Marks}
use Rattle.lw_reg.specs.Registration.{Registration}
use Rattle.lw_reg.specs.Showing.{IsShown}

-- a registration of the endpoint is shown
abbrev pub IsName : Marks → ℕ → List ℕ → Type 0
IsName M now endpoint = (r : Registration) × (r.endpoint ≡ endpoint) × IsShown M now r

-- exactly the endpoints that are shown, rising by their bytes
pub record AreNames (M : Marks) (now : ℕ) (names : List (List ℕ)) : Type 0 where
  pub rising : IsStrictlySortedBy text_cmp names
  pub all : (endpoint : List ℕ) → Contains names endpoint ↔ IsName M now endpoint

-- the last of them, if there is one
abbrev pub last_of : List (List ℕ) → Option (List ℕ)
last_of names = slice_get names (length names - 1)
