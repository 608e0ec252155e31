-- Changes that follow each other by their numbers.
use Rattle.std.specs.Prelude.{◌≡◌, ℕ, ◌<◌, ◌≤◌, List, [], ◌∷◌, Option, Some, None}
use Rattle.std.specs.FinMap.{get}
use Rattle.lw_reg.specs.State.{State}
use Rattle.lw_table.specs.Changes.{Moved, Count}

-- the slot moved after the number, and took the least number of those that did; or none did
abbrev pub IsNextChange : State → Count → ℕ → Option Moved → Type 0
IsNextChange state count since None = (n : ℕ) (e : List ℕ) → get count.numbers e ≡ Some n → n ≤ since
IsNextChange state count since (Some next) =
    (get count.numbers next.1.0 ≡ Some next.0) × (get state next.1.0 ≡ Some next.1.1) × (since < next.0)
    × ((n : ℕ) (e : List ℕ) → get count.numbers e ≡ Some n → since < n → next.0 ≤ n)

-- each is the next after the one before
abbrev pub AreNext : State → Count → ℕ → List Moved → Type 0
AreNext state count since [] = Unit {0}
AreNext state count since (next ∷ page) = IsNextChange state count since (Some next) × AreNext state count next.0 page
