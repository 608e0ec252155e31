-- Texts that are gathered, and then put in order: each once, and rising.
use Rattle.std.proofs.Common.{◌≡◌, ◌⊎◌, inl, inr, ℕ, List, [], ◌∷◌, ◌++◌, map, refl, sym, ap, subst, ◌∙◌}
use Rattle.std.specs.Prelude.{◌↔◌, Contains, nat_eq}
use Rattle.std.specs.List.{AllByRecursion, dedup}
use Rattle.std.specs.Cmp.Lexicographic.{pointwise, on_texts_equal}
use Rattle.std.specs.List.Sorted.{IsPermutation, IsStrictlySortedBy}
use Rattle.std.specs.Ordering.{on}
use Rattle.std.specs.declared.cmp.Ordering.TheVariants.{Less}
use Rattle.std.proofs.lemmas.List.{map-append}
use Rattle.std.proofs.lemmas.List.Elements.{Contains-append_left, Contains-append_right, Contains-append_cases}
use Rattle.std.proofs.lemmas.List.Kept.{Any-dedup, Contains-from_dedup}
use Rattle.std.proofs.lemmas.List.Sorted.{Contains-permutation, IsPermutation-sym}
use Rattle.std.proofs.lemmas.Slice.Eq.{bytes_eq-Decides}
use Rattle.lw_stamp.specs.TextOrder.{text_cmp}
use Rattle.lw_reg.proofs.Members.{none_there, first_there, more_there, there_or_first}

module _ {X : Type 0} (text : X → List ℕ) where
  member_of : (xs : List X) (e : List ℕ) → Contains (map text xs) e → (x : X) × Contains xs x × (e ≡ text x)
  member_of [] e c = none_there e c
  member_of (x ∷ xs) e c = go (there_or_first (text x) (map text xs) e c) (member_of xs e)
    where
      go : (e ≡ text x) ⊎ Contains (map text xs) e → (Contains (map text xs) e → (y : X) × Contains xs y × (e ≡ text y)) → (y : X) × Contains (x ∷ xs) y × (e ≡ text y)
      go (inl same) more = (x, first_there x xs x refl, same)
      go (inr there) more = let m = more there in (m.0, more_there x xs m.0 m.1, m.2)

  text_of_member : (xs : List X) (x : X) → Contains xs x → Contains (map text xs) (text x)
  text_of_member [] x c = none_there x c
  text_of_member (y ∷ ys) x c = go (there_or_first y ys x c) (text_of_member ys x)
    where
      go : (x ≡ y) ⊎ Contains ys x → (Contains ys x → Contains (map text ys) (text x)) → Contains (map text (y ∷ ys)) (text x)
      go (inl same) more = first_there (text y) (map text ys) (text x) (ap text same)
      go (inr there) more = more_there (text y) (map text ys) (text x) (more there)

  -- one more at the end
  pub one_more : (xs ys : List X) (x : X) → ys ≡ xs ++ x ∷ [] → (e : List ℕ) → Contains (map text ys) e ↔ (Contains (map text xs) e ⊎ (e ≡ text x))
  one_more xs ys x is e = (there, back)
    where
      all : map text ys ≡ map text xs ++ text x ∷ []
      all = ap (map text) is ∙ map-append text xs (x ∷ [])

      there : Contains (map text ys) e → Contains (map text xs) e ⊎ (e ≡ text x)
      there c = elim (Contains-append_cases (map text xs) (text x ∷ []) e (subst (λ l. Contains l e) all c)) [
        | inl old ↦ inl old
        | inr new ↦ elim (there_or_first (text x) [] e new) [ inl same ↦ inr same | inr none ↦ none_there e none ]
      ]

      back : Contains (map text xs) e ⊎ (e ≡ text x) → Contains (map text ys) e
      back (inl old) = subst (λ l. Contains l e) (sym all) (Contains-append_left (map text xs) (text x ∷ []) e old)
      back (inr same) = subst (λ l. Contains l e) (sym all) (Contains-append_right (map text xs) (text x ∷ []) e (first_there (text x) [] e same))

  -- what is in another order, and then without what repeats, has the same texts
  pub same_texts : (xs ys : List X) → IsPermutation xs ys → (e : List ℕ) → Contains (map text (dedup (on text (pointwise nat_eq)) ys)) e ↔ Contains (map text xs) e
  same_texts xs ys moved e = (there, back)
    where
      there : Contains (map text (dedup (on text (pointwise nat_eq)) ys)) e → Contains (map text xs) e
      there c =
          let m = member_of (dedup (on text (pointwise nat_eq)) ys) e c in
          let old = Contains-permutation _ _ m.0 (IsPermutation-sym _ _ moved) (Contains-from_dedup _ ys m.0 m.1) in
          subst (Contains (map text xs)) (sym m.2) (text_of_member xs m.0 old)

      back : Contains (map text xs) e → Contains (map text (dedup (on text (pointwise nat_eq)) ys)) e
      back c =
          let m = member_of xs e c in
          let kept = Any-dedup (on_texts_equal text) ys m.0 (Contains-permutation _ _ m.0 moved m.1) in
          let same : text m.0 ≡ text kept.1 = (bytes_eq-Decides (text m.0) (text kept.1)).0 kept.4 in
          subst (Contains (map text (dedup (on text (pointwise nat_eq)) ys))) (sym (m.2 ∙ same)) (text_of_member (dedup (on text (pointwise nat_eq)) ys) kept.1 (kept.0, kept.2, kept.3))

  texts_above : (x : X) (xs : List X) → AllByRecursion (λ y. on text text_cmp x y ≡ Less) xs → AllByRecursion (λ t. text_cmp (text x) t ≡ Less) (map text xs)
  texts_above x [] h = tt
  texts_above x (y ∷ ys) h = (h.0, texts_above x ys h.1)

  -- what rises by its texts has texts that rise
  pub texts_rise : (xs : List X) → IsStrictlySortedBy (on text text_cmp) xs → IsStrictlySortedBy text_cmp (map text xs)
  unfolding IsStrictlySortedBy
  texts_rise [] h = tt
  texts_rise (x ∷ xs) h = (texts_above x xs h.0, texts_rise xs h.1)
