-- Changes that follow each other are the page of all that moved.
use Rattle.std.proofs.Common.{◌≡◌, ◌⊎◌, inl, inr, ℕ, ◌<◌, ◌≤◌, Bool, true, false, List, [], ◌∷◌, ◌++◌, length, Some, None, refl, sym, ap, subst, ◌∙◌, arith}
use Rattle.std.specs.Prelude.{Contains}
use Rattle.std.specs.FinMap.{get}
use Rattle.std.specs.List.{AllByRecursion}
use Rattle.std.specs.List.Sorted.{IsStrictlySortedBy}
use Rattle.std.specs.Ordering.{nat_cmp, is_lt}
use Rattle.std.specs.declared.cmp.Ordering.TheVariants.{Less}
use Rattle.std.proofs.lemmas.Bool.{cases_lt}
use Rattle.std.proofs.lemmas.Map.Keys.{ge_from_not_lt}
use Rattle.lw_join.specs.EntriesLaws.{is_Less}
use Rattle.lw_reg.specs.State.{State}
use Rattle.lw_reg.proofs.Members.{none_there, first_there, more_there, there_or_first}
use Rattle.lw_table.specs.Changes.{Moved, Count, upto_of, IsChangePage}
use Rattle.lw_table.specs.inner.Changes.{AreNext, IsNextChange}

all_by : {X : Type 0} (P : X → Type 0) (xs : List X) → ((x : X) → Contains xs x → P x) → AllByRecursion P xs
all_by P [] h = tt
all_by P (x ∷ xs) h = (h x (first_there x xs x refl), all_by P xs (λ y c. h y (more_there x xs y c)))

below_is_less : (m n : ℕ) → m < n → nat_cmp m n ≡ Less
below_is_less m n h = go (is_lt (nat_cmp m n)) refl
  where
    go : (b : Bool) → is_lt (nat_cmp m n) ≡ b → nat_cmp m n ≡ Less
    go true less = is_Less (nat_cmp m n) less
    go false not = absurd (let above = ge_from_not_lt m n not in omega (arith, h, above))

some_is : {A : Type 0} (v w : A) → Some v ≡ Some w → v ≡ w
some_is v w e = cc

module _ (state : State) (count : Count) where
  -- ---- one more at the end
  pub next_more : (since : ℕ) (page : List Moved) (next : Moved) → AreNext state count since page → IsNextChange state count (upto_of since page) (Some next) → AreNext state count since (page ++ next ∷ [])
  next_more since [] next are is = (is, tt)
  next_more since (x ∷ xs) next are is = (are.0, next_more x.0 xs next are.1 is)

  pub upto_more : (since : ℕ) (page : List Moved) (next : Moved) → upto_of since (page ++ next ∷ []) ≡ next.0
  upto_more since [] next = refl
  upto_more since (x ∷ xs) next = upto_more x.0 xs next

  upto_above : (since : ℕ) (page : List Moved) → AreNext state count since page → since ≤ upto_of since page
  upto_above since [] are = omega arith
  upto_above since (x ∷ xs) are = let first = are.0.2 in let more = upto_above x.0 xs are.1 in omega (arith, first, more)

  -- ---- where each number below the last is under one endpoint
  module _ (alone : (n : ℕ) (d e : List ℕ) → get count.numbers d ≡ Some n → get count.numbers e ≡ Some n → d ≡ e) where
    abbrev Told : ℕ → ℕ → Moved → Type 0
    Told since upto change = (get count.numbers change.1.0 ≡ Some change.0) × (get state change.1.0 ≡ Some change.1.1) × (since < change.0) × (change.0 ≤ upto)

    told : (since : ℕ) (page : List Moved) → AreNext state count since page → (change : Moved) → Contains page change → Told since (upto_of since page) change
    told since [] are change c = none_there change c
    told since (x ∷ xs) are change c = go (told x.0 xs are.1 change) (there_or_first x xs change c)
      where
        go : (Contains xs change → Told x.0 (upto_of x.0 xs) change) → (change ≡ x) ⊎ Contains xs change → Told since (upto_of x.0 xs) change
        go more (inl same) = subst (Told since (upto_of x.0 xs)) (sym same) (are.0.0, are.0.1, are.0.2, upto_above x.0 xs are.1)
        go more (inr there) = let t = more there in let first = are.0.2 in let above = t.2 in (t.0, t.1, omega (arith, first, above), t.3)

    there : (since : ℕ) (page : List Moved) → AreNext state count since page → (change : Moved) → Told since (upto_of since page) change → Contains page change
    there since [] are change t = absurd (let above = t.2 in let low = t.3 in omega (arith, above, low))
    there since (x ∷ xs) are change t = go (there x.0 xs are.1 change) (cases_lt x.0 change.0)
      where
        least : x.0 ≤ change.0
        least = are.0.3 change.0 change.1.0 t.0 t.2

        go : (Told x.0 (upto_of x.0 xs) change → Contains xs change) → (x.0 < change.0) ⊎ (change.0 ≤ x.0) → Contains (x ∷ xs) change
        go more (inl above) = more_there x xs change (more (t.0, t.1, above, t.3))
        go more (inr low) =
            let number : change.0 ≡ x.0 = omega (arith, low, least) in
            let endpoint : change.1.0 ≡ x.1.0 = alone x.0 change.1.0 x.1.0 (t.0 ∙ ap Some number) are.0.0 in
            let slot : change.1.1 ≡ x.1.1 = some_is change.1.1 x.1.1 (sym t.1 ∙ ap (get state) endpoint ∙ are.0.1) in
            first_there x xs change (λ i. (number i, (endpoint i, slot i)))

    rise : (since : ℕ) (page : List Moved) → AreNext state count since page → IsStrictlySortedBy (λ x y. nat_cmp x.0 y.0) page
    unfolding IsStrictlySortedBy
    rise since [] are = tt
    rise since (x ∷ xs) are = (all_by (λ y. nat_cmp x.0 y.0 ≡ Less) xs (λ y c. below_is_less x.0 y.0 (told x.0 xs are.1 y c).2), rise x.0 xs are.1)

    pub change_page : (since limit : ℕ) (page : List Moved) → AreNext state count since page → length page ≤ limit → (length page < limit → IsNextChange state count (upto_of since page) None) → IsChangePage state count since limit page
    change_page since limit page are within whole = record {
      rising = rise since page are;
      members = λ n e slot. (told since page are (n, (e, slot)), there since page are (n, (e, slot)));
      within = within;
      whole = whole;
    }
