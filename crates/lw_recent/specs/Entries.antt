-- Places under numbers, and what is left of entries of which some have none.
use Rattle.std.specs.Prelude.{ℕ, List, Option, filter_map, map}
use Rattle.std.specs.Option.{option_map}
use Rattle.lw_recent.specs.declared.entry.Entry.{Entry}

abbrev pub number_of : Entry → ℕ
number_of x = x.number

-- the number and the place, where there is one
abbrev pub shown : Entry → Option (ℕ × ℕ)
shown x = option_map (λ place. (x.number, place)) x.place

-- what the entries that have a place show
abbrev pub pairs_in : List Entry → List (ℕ × ℕ)
pairs_in xs = filter_map shown xs

-- the places alone
abbrev pub places_in : List Entry → List ℕ
places_in xs = map (λ p. p.1) (pairs_in xs)
