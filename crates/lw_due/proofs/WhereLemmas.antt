-- The first endpoint above a given one whose note passes a test: where a descent finds it, and that each is found by
-- going on from the last.
use Rattle.std.proofs.Common.{◌≡◌, List, ℕ, [], ◌∷◌, ◌++◌, Bool, true, false, cond, Option, None, Some, refl, sym, ap, ◌∙◌, subst}
use Rattle.std.specs.Prelude.{◌&&◌, ◌||◌, filter}
use Rattle.std.specs.List.{AllByRecursion, list_any}
use Rattle.std.specs.List.Sorted.{IsStrictlySortedBy}
use Rattle.std.specs.Map.{keys_of}
use Rattle.std.specs.Ordering.{is_lt}
use Rattle.std.specs.declared.cmp.Ordering.{Ordering}
use Rattle.std.specs.declared.cmp.Ordering.TheVariants.{Less, Equal, Greater}
use Rattle.lw_stamp.specs.TextOrder.{text_cmp}
use Rattle.lw_stamp.proofs.TextLemmas.{text_order}
use Rattle.lw_due.specs.Due.{Entry, Note, IsRising, names_where, is_after, first_where}
use Rattle.lw_due.proofs.DueLemmas.{AllAbove, turned}

-- ---- what is above
after_greater : (after : Option (List ℕ)) (a b : List ℕ) → is_after after a ≡ true → text_cmp a b ≡ Less → is_after after b ≡ true
after_greater None a b h less = refl
after_greater (Some c) a b h less = go (text_cmp c a) refl h
  where
    go : (o : Ordering) → text_cmp c a ≡ o → is_lt o ≡ true → is_lt (text_cmp c b) ≡ true
    go Less is h = ap is_lt (text_order.total.trans c a b is less)
    go Equal is h = absurd cc
    go Greater is h = absurd cc

other_bools : (b : Bool) → b ≡ true → b ≡ false → ⊥
other_bools true h k = cc
other_bools false h k = cc

not_after_lesser : (after : Option (List ℕ)) (a b : List ℕ) → is_after after b ≡ false → text_cmp a b ≡ Less → is_after after a ≡ false
not_after_lesser after a b h less = go (is_after after a) refl
  where
    go : (t : Bool) → is_after after a ≡ t → t ≡ false
    go true is = absurd (other_bools (is_after after b) (after_greater after a b is less) h)
    go false is = refl

not_after_itself : (e a : List ℕ) → text_cmp a e ≡ Less → is_after (Some e) a ≡ false
not_after_itself e a less = ap is_lt (turned a e Less less)

not_above_itself : (a : List ℕ) → is_after (Some a) a ≡ false
not_above_itself a = go (text_cmp a a) refl
  where
    go : (o : Ordering) → text_cmp a a ≡ o → is_lt o ≡ false
    go Less is = absurd (let bad : Less ≡ Greater = sym is ∙ turned a a Less is in cc)
    go Equal is = refl
    go Greater is = refl

-- ---- a test that fails
no_pass : {A : Type 0} (a : Bool) (t r : A) → cond (a && false) t r ≡ r
no_pass true t r = refl
no_pass false t r = refl

above_lesser : (a : List ℕ) (l : List Entry) (x : Entry) (r : List Entry) → AllByRecursion (λ k. text_cmp a k ≡ Less) (keys_of (l ++ x ∷ r)) → text_cmp a x.0 ≡ Less
above_lesser a [] x r h = h.0
above_lesser a (y ∷ l) x r h = above_lesser a l x r h.1

module _ (test : Note → Bool) (after : Option (List ℕ)) where
  abbrev First : List Entry → Option (List ℕ)
  First = first_where test after

  none_by : (a b : Bool) (t : List ℕ) (xs : List Entry) → (list_any (λ x. test x.1) xs ≡ false → First xs ≡ None) → (b || list_any (λ x. test x.1) xs) ≡ false → cond (a && b) (Some t) (First xs) ≡ None
  none_by a true t xs rest h = absurd cc
  none_by a false t xs rest h = no_pass a (Some t) (First xs) ∙ rest h

  pub none_where : (xs : List Entry) → list_any (λ x. test x.1) xs ≡ false → First xs ≡ None
  none_where [] h = refl
  none_where (x ∷ xs) h = none_by (is_after after x.0) (test x.1) x.0 xs (none_where xs) h

  -- one before
  some_by : (b : Bool) (t e : List ℕ) (l m : List Entry) → (First l ≡ Some e → First (l ++ m) ≡ Some e) → cond b (Some t) (First l) ≡ Some e → cond b (Some t) (First (l ++ m)) ≡ Some e
  some_by true t e l m rest h = h
  some_by false t e l m rest h = rest h

  pub first_left : (e : List ℕ) (l m : List Entry) → First l ≡ Some e → First (l ++ m) ≡ Some e
  first_left e [] m h = absurd cc
  first_left e (x ∷ l) m h = some_by (is_after after x.0 && test x.1) x.0 e l m (first_left e l m) h

  -- none before
  past_by : (b : Bool) (t : List ℕ) (l m : List Entry) → (First l ≡ None → First (l ++ m) ≡ First m) → cond b (Some t) (First l) ≡ None → cond b (Some t) (First (l ++ m)) ≡ First m
  past_by true t l m rest h = absurd cc
  past_by false t l m rest h = rest h

  pub first_past : (l m : List Entry) → First l ≡ None → First (l ++ m) ≡ First m
  first_past [] m h = refl
  first_past (x ∷ l) m h = past_by (is_after after x.0 && test x.1) x.0 l m (first_past l m) h

  -- all up to x are not above
  pub first_right : (l : List Entry) (x : Entry) (r : List Entry) → IsRising (l ++ x ∷ r) → is_after after x.0 ≡ false → First (l ++ x ∷ r) ≡ First r
  unfolding IsStrictlySortedBy
  first_right [] x r rising h = rw h refl
  first_right (y ∷ l) x r rising h = rw (not_after_lesser after y.0 x.0 h (above_lesser y.0 l x r rising.0)) (first_right l x r rising.1 h)

  -- x is
  all_is : (a : List ℕ) (r : List Entry) → is_after after a ≡ true → AllAbove a r → First r ≡ first_where test None r
  all_is a [] h above = refl
  all_is a (y ∷ r) h above = rw (after_greater after a y.0 h above.0) (ap (λ t. cond (test y.1) (Some y.0) t) (all_is a r h above.1))

  back_above : (l : List Entry) (x : Entry) (r : List Entry) → IsRising (l ++ x ∷ r) → AllAbove x.0 r
  unfolding IsStrictlySortedBy
  back_above [] x r rising = rising.0
  back_above (y ∷ l) x r rising = back_above l x r rising.1

  pub first_here : (l : List Entry) (x : Entry) (r : List Entry) → is_after after x.0 ≡ true → First l ≡ None → test x.1 ≡ true → First (l ++ x ∷ r) ≡ Some x.0
  first_here l x r h none passes = first_past l (x ∷ r) none ∙ rw (h, passes) refl

  pub first_beyond : (l : List Entry) (x : Entry) (r : List Entry) → IsRising (l ++ x ∷ r) → is_after after x.0 ≡ true → First l ≡ None → test x.1 ≡ false → First (l ++ x ∷ r) ≡ first_where test None r
  first_beyond l x r rising h none fails = first_past l (x ∷ r) none ∙ rw (h, fails) (all_is x.0 r h (back_above l x r rising))

-- ---- going on from the last
module _ (test : Note → Bool) where
  abbrev Names : List Entry → List (List ℕ)
  Names = names_where test

  -- what stands above is above
  pub names_all : (P : List ℕ → Type 0) (xs : List Entry) → AllByRecursion P (keys_of xs) → AllByRecursion P (Names xs)
  names_all P [] h = tt
  names_all P (x ∷ xs) h =
      elim (test x.1) as (λ b. AllByRecursion P (keys_of (cond b (x ∷ filter (λ y. test y.1) xs) (filter (λ y. test y.1) xs)))) [
        | true ↦ (h.0, names_all P xs h.1)
        | false ↦ names_all P xs h.1
      ]

  pub names_rise : (xs : List Entry) → IsRising xs → IsStrictlySortedBy text_cmp (Names xs)
  unfolding IsStrictlySortedBy
  names_rise [] h = tt
  names_rise (x ∷ xs) h =
      elim (test x.1) as (λ b. IsStrictlySortedBy text_cmp (keys_of (cond b (x ∷ filter (λ y. test y.1) xs) (filter (λ y. test y.1) xs)))) [
        | true ↦ (names_all (λ k. text_cmp x.0 k ≡ Less) xs h.0, names_rise xs h.1)
        | false ↦ names_rise xs h.1
      ]

  all_pass : (after : Option (List ℕ)) (ns : List (List ℕ)) → AllByRecursion (λ k. is_after after k ≡ true) ns → filter (is_after after) ns ≡ ns
  all_pass after [] h = refl
  all_pass after (n ∷ ns) h = rw h.0 (ap (λ l. n ∷ l) (all_pass after ns h.1))

  above_pass : (after : Option (List ℕ)) (a : List ℕ) (xs : List Entry) → is_after after a ≡ true → AllAbove a xs → AllByRecursion (λ k. is_after after k ≡ true) (keys_of xs)
  above_pass after a [] h above = tt
  above_pass after a (x ∷ xs) h above = (after_greater after a x.0 h above.0, above_pass after a xs h above.1)

  itself_pass : (a : List ℕ) (xs : List Entry) → AllAbove a xs → AllByRecursion (λ k. is_after (Some a) k ≡ true) (keys_of xs)
  itself_pass a [] above = tt
  itself_pass a (x ∷ xs) above = (ap is_lt above.0, itself_pass a xs above.1)

  one_text : (a b : List ℕ) → ◌≡◌ {A = Option (List ℕ)} (Some a) (Some b) → a ≡ b
  one_text a b h = cc

  -- the first stands among the entries
  stands_by : (b : Bool) (a e : List ℕ) (x : Entry) (t : Option (List ℕ)) → text_cmp a x.0 ≡ Less → (t ≡ Some e → text_cmp a e ≡ Less) → cond b (Some x.0) t ≡ Some e → text_cmp a e ≡ Less
  stands_by true a e x t less rest h = subst (λ k. text_cmp a k ≡ Less) (one_text x.0 e h) less
  stands_by false a e x t less rest h = rest h

  stands_above : (after : Option (List ℕ)) (a e : List ℕ) (xs : List Entry) → AllAbove a xs → first_where test after xs ≡ Some e → text_cmp a e ≡ Less
  stands_above after a e [] above h = absurd cc
  stands_above after a e (x ∷ xs) above h = stands_by (is_after after x.0 && test x.1) a e x (first_where test after xs) above.0 (stands_above after a e xs above.1) h

  next_by : (after : Option (List ℕ)) (e : List ℕ) (x : Entry) (xs : List Entry) → AllAbove x.0 xs
      → (first_where test after xs ≡ Some e → filter (is_after after) (Names xs) ≡ e ∷ filter (is_after (Some e)) (Names xs))
      → (a b : Bool) → is_after after x.0 ≡ a → cond (a && b) (Some x.0) (first_where test after xs) ≡ Some e
      → filter (is_after after) (keys_of (cond b (x ∷ filter (λ y. test y.1) xs) (filter (λ y. test y.1) xs))) ≡ e ∷ filter (is_after (Some e)) (keys_of (cond b (x ∷ filter (λ y. test y.1) xs) (filter (λ y. test y.1) xs)))
  next_by after e x xs above rest a false is h = rest (sym (no_pass a (Some x.0) (first_where test after xs)) ∙ h)
  next_by after e x xs above rest true true is h =
      let same : x.0 ≡ e = one_text x.0 e h in
      rw is (subst (λ k. x.0 ∷ filter (is_after after) (Names xs) ≡ k ∷ filter (is_after (Some k)) (x.0 ∷ Names xs)) same
      (ap (λ l. x.0 ∷ l) (all_pass after (Names xs) (names_all (λ k. is_after after k ≡ true) xs (above_pass after x.0 xs is above))
      ∙ sym (all_pass (Some x.0) (Names xs) (names_all (λ k. is_after (Some x.0) k ≡ true) xs (itself_pass x.0 xs above)))
      ∙ ap (λ b. cond b (x.0 ∷ filter (is_after (Some x.0)) (Names xs)) (filter (is_after (Some x.0)) (Names xs))) (sym (not_above_itself x.0)))))
  next_by after e x xs above rest false true is h =
      rw (is, not_after_itself e x.0 (stands_above after x.0 e xs above h)) (rest h)

  pub first_is_next : (after : Option (List ℕ)) (e : List ℕ) (xs : List Entry) → IsRising xs → first_where test after xs ≡ Some e → filter (is_after after) (Names xs) ≡ e ∷ filter (is_after (Some e)) (Names xs)
  unfolding IsStrictlySortedBy
  first_is_next after e [] rising h = absurd cc
  first_is_next after e (x ∷ xs) rising h = next_by after e x xs rising.0 (first_is_next after e xs rising.1) (is_after after x.0) (test x.1) refl h

  last_by : (after : Option (List ℕ)) (x : Entry) (xs : List Entry) → (first_where test after xs ≡ None → filter (is_after after) (Names xs) ≡ [])
      → (a b : Bool) → is_after after x.0 ≡ a → cond (a && b) (Some x.0) (first_where test after xs) ≡ None
      → filter (is_after after) (keys_of (cond b (x ∷ filter (λ y. test y.1) xs) (filter (λ y. test y.1) xs))) ≡ []
  last_by after x xs rest a false is h = rest (sym (no_pass a (Some x.0) (first_where test after xs)) ∙ h)
  last_by after x xs rest true true is h = absurd cc
  last_by after x xs rest false true is h = rw is (rest h)

  pub none_is_left : (after : Option (List ℕ)) (xs : List Entry) → first_where test after xs ≡ None → filter (is_after after) (Names xs) ≡ []
  none_is_left after [] h = refl
  none_is_left after (x ∷ xs) h = last_by after x xs (none_is_left after xs) (is_after after x.0) (test x.1) refl h
