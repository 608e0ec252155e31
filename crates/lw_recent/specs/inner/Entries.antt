-- Entries of which some have no place.
use Rattle.std.specs.Prelude.{◌≡◌, ℕ, zero, suc, ◌<◌, List, [], ◌∷◌, length, Option, None, slice_get}
use Rattle.std.specs.Option.{option_and_then}
use Rattle.lw_recent.specs.declared.entry.Entry.{Entry}
use Rattle.lw_recent.specs.Entries.{shown}

abbrev pub shown_at : List Entry → ℕ → Option (ℕ × ℕ)
shown_at xs i = option_and_then shown (slice_get xs i)

-- the entry there has no place
pub record IsHole (xs : List Entry) (i : ℕ) : Type 0 where
  pub within : i < length xs
  pub empty : shown_at xs i ≡ None

abbrev pub HasHole : List Entry → Type 0
HasHole xs = (i : ℕ) × IsHole xs i

abbrev pub emptied : Entry → Entry
emptied x = record { number = x.number; place = None }

-- the entry there has no place any more
abbrev pub with_hole : List Entry → ℕ → List Entry
with_hole [] i = []
with_hole (x ∷ xs) zero = emptied x ∷ xs
with_hole (x ∷ xs) (suc i) = x ∷ with_hole xs i
