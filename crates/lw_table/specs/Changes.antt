-- Change numbers: how often the slots of a node have moved, and which have since a number.
use Rattle.std.specs.Prelude.{◌≡◌, ◌≢◌, ℕ, ◌+◌, ◌-◌, ◌<◌, ◌≤◌, ◌^◌, ◌⊎◌, ◌↔◌, List, [], ◌∷◌, length, min, Contains, Some, slice_get}
use Rattle.std.specs.FinMap.{FinMap, get}
use Rattle.std.specs.List.Sorted.{IsStrictlySortedBy}
use Rattle.std.specs.Ordering.{nat_cmp}
use Rattle.lw_stamp.specs.TextOrder.{text_cmp}
use Rattle.lw_reg.specs.declared.slot.Slot.{Slot}
use Rattle.lw_reg.specs.State.{State}

-- a number for each endpoint whose slot has moved
abbrev pub Numbers : Type 0
Numbers = FinMap text_cmp ℕ

-- the count of all moves, and the number that each endpoint took last
pub record Count : Type 0 where
  pub change : ℕ
  pub numbers : Numbers

-- numbers stay at the last
abbrev pub LAST : ℕ
LAST = 2 ^ 64 - 1

-- so many more, as far as there is room below the last
abbrev pub counted : ℕ → ℕ → ℕ
counted change more = change + min more (LAST - change)

-- the slot of the endpoint is another than before
abbrev pub Moves : State → State → List ℕ → Type 0
Moves old new e = get old e ≢ get new e

-- each endpoint that moves takes the next number, rising, and every other keeps the number that it has
pub record Recounts (old new : State) (before after : Count) : Type 0 where
  pub moved : List (List ℕ)
  pub rising : IsStrictlySortedBy text_cmp moved
  pub all : (e : List ℕ) → Contains moved e ↔ Moves old new e
  pub change : after.change ≡ counted before.change (length moved)
  pub numbered : (i : ℕ) (e : List ℕ) → slice_get moved i ≡ Some e → get after.numbers e ≡ Some (counted before.change (i + 1))
  pub kept : (e : List ℕ) → get old e ≡ get new e → get after.numbers e ≡ get before.numbers e

-- the endpoint took its number after the given one; at the last number all did
abbrev pub IsSince : Count → ℕ → List ℕ → Type 0
IsSince count since e = (count.change ≡ LAST) ⊎ ((k : ℕ) × (get count.numbers e ≡ Some k) × (since < k))

-- exactly the slots that moved since then, as they stand, endpoints rising
pub record IsSinceIn (state : State) (count : Count) (since : ℕ) (slots : List (List ℕ × Slot)) : Type 0 where
  pub rising : IsStrictlySortedBy (λ x y. text_cmp x.0 y.0) slots
  pub members : (e : List ℕ) (slot : Slot) → Contains slots (e, slot) ↔ ((get state e ≡ Some slot) × IsSince count since e)

-- a slot, its endpoint, and the number that it took last
abbrev pub Moved : Type 0
Moved = ℕ × (List ℕ × Slot)

-- the number of the last change of a page; of none that behind which it begins
abbrev pub upto_of : ℕ → List Moved → ℕ
upto_of since [] = since
upto_of since (change ∷ page) = upto_of change.0 page

-- Exactly the slots that moved after a number and up to that of the last, as they stand, in the order of their numbers,
-- of which no two are the same. They are so many at most; and where they are fewer, all that moved after.
pub record IsChangePage (state : State) (count : Count) (since limit : ℕ) (page : List Moved) : Type 0 where
  pub rising : IsStrictlySortedBy (λ x y. nat_cmp x.0 y.0) page
  pub members : (n : ℕ) (e : List ℕ) (slot : Slot) → Contains page (n, (e, slot)) ↔ ((get count.numbers e ≡ Some n) × (get state e ≡ Some slot) × (since < n) × (n ≤ upto_of since page))
  pub within : length page ≤ limit
  pub whole : length page < limit → (n : ℕ) (e : List ℕ) → get count.numbers e ≡ Some n → n ≤ upto_of since page
