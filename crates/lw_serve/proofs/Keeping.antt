-- Volumes that are kept are of nodes behind shelves.
use Rattle.std.proofs.Common.{◌≡◌, ℕ, zero, suc, ◌+◌, ◌≤◌, List, [], ◌∷◌, ◌++◌, length, Some, inl, inr, sym, ap, ◌∙◌, subst, arith}
use Rattle.std.specs.Prelude.{slice_get}
use Rattle.std.proofs.lemmas.Option.{slice_get_within}
use Rattle.lw_held.proofs.Longer.{there_or_last}
use Rattle.lw_held.specs.History.{VolumeContent}
use Rattle.lw_held.specs.Shelves.{AreInOrder, HaveShelves}
use Rattle.lw_held.specs.declared.shelf.Shelf.{Shelf}
use Rattle.lw_serve.proofs.Numbering.{there}
use Rattle.lw_serve.specs.inner.Volumes.{AreOfNodes}

pub none_kept : (count : ℕ) → AreOfNodes count []
none_kept count i volume at = absurd (let within = slice_get_within [] i volume at in omega (arith, within))

-- one volume more
pub one_kept : (count : ℕ) (volumes longer : List VolumeContent) (volume : VolumeContent) → AreOfNodes count volumes → longer ≡ volumes ++ volume ∷ [] → (1 ≤ volume.opening.number) × (volume.opening.number ≤ count) → AreOfNodes count longer
one_kept count volumes longer volume before pushed within i other at =
    elim (there_or_last volumes volume i other (ap (λ (vs : List VolumeContent). slice_get vs i) (sym pushed) ∙ at)) [
      | inl earlier ↦ before i other earlier
      | inr last ↦ subst (λ (v : VolumeContent). (1 ≤ v.opening.number) × (v.opening.number ≤ count)) last.1 within
    ]

-- the shelf at a place has the next number, which is one of theirs
pub shelf_number : (shelves : List Shelf) (i : ℕ) (shelf : Shelf) → AreInOrder shelves → slice_get shelves i ≡ Some shelf → (1 ≤ shelf.number) × (shelf.number ≤ length shelves)
shelf_number shelves i shelf order at =
    let next = order i shelf at in
    let within = slice_get_within shelves i shelf at in
    (omega (arith, next), omega (arith, next, within))

-- a number from 1 on is the next of another
before : (n : ℕ) → 1 ≤ n → (k : ℕ) × (n ≡ k + 1)
before zero least = absurd (omega (arith, least))
before (suc k) least = (k, (let is : suc k ≡ k + 1 = omega arith in is))

pub have_shelves : (shelves : List Shelf) (volumes : List VolumeContent) → AreInOrder shelves → AreOfNodes (length shelves) volumes → HaveShelves shelves volumes
have_shelves shelves volumes order kept i volume at =
    let within = kept i volume at in
    let place = before volume.opening.number within.0 in
    let next = place.1 in
    let most = within.1 in
    let shelf = there shelves place.0 (omega (arith, next, most)) in
    (place.0, shelf.0, shelf.1, order place.0 shelf.0 shelf.1 ∙ sym next)
