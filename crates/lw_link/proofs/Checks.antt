-- Testing characters one after another.
use Rattle.std.proofs.Common.{◌≡◌, ℕ, suc, ◌+◌, ◌<◌, Bool, List, [], ◌∷◌, ap, subst, sym, length, get_or, drop, add-one, drop-cons}
use Rattle.std.specs.List.{AllByRecursion}
use Rattle.lw_link.specs.Characters.{Each}

-- all of one list pass the test where all of the other do
pub record IsSame (p : ℕ → Bool) (left all : List ℕ) : Type 0 where
  pub some : Each p left → Each p all
  pub back : Each p all → Each p left

pub same_end : (p : ℕ → Bool) (old all : List ℕ) → old ≡ [] → IsSame p old all → Each p all
same_end p old all e h = h.some (subst (Each p) (sym e) tt)

-- the same, of a test that is a fact
pub record IsSameAll {X : Type 0} (P : X → Type 0) (left all : List X) : Type 0 where
  pub some : AllByRecursion P left → AllByRecursion P all
  pub back : AllByRecursion P all → AllByRecursion P left

next_is : {X : Type 0} (xs : List X) (i : ℕ) (x : X) → i < length xs → x ≡ get_or xs i x → drop i xs ≡ x ∷ drop (i + 1) xs
next_is xs i x lt e = rw (add-one, drop-cons xs i x lt) (ap (λ y. y ∷ drop (suc i) xs) (sym e))

pub all_more : {X : Type 0} (P : X → Type 0) (xs all : List X) (i : ℕ) (x : X) → i < length xs → x ≡ get_or xs i x → P x → IsSameAll P (drop i xs) all → IsSameAll P (drop (i + 1) xs) all
all_more P xs all i x lt e t h =
    let here : drop i xs ≡ x ∷ drop (i + 1) xs = next_is xs i x lt e in
    record {
      some = λ k. h.some (subst (AllByRecursion P) (sym here) (t, k));
      back = λ k. (subst (AllByRecursion P) here (h.back k)).1;
    }
