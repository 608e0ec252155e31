-- The first of several that is found, the least of several in any order, and what they are of all that fit.
use Rattle.std.proofs.Common.{◌≡◌, ◌⊎◌, inl, inr, ℕ, Bool, true, false, cond, List, [], ◌∷◌, Option, Some, None, refl, sym, ap, subst, ◌∙◌}
use Rattle.std.specs.Prelude.{◌↔◌, Contains, filter}
use Rattle.std.specs.Cmp.{IsTotalOrder, upto, tied_itself}
use Rattle.std.specs.List.{AllByRecursion}
use Rattle.std.specs.List.Sorted.{IsStrictlySortedBy}
use Rattle.std.specs.Ordering.{is_gt, is_lt, ordering_reverse}
use Rattle.std.specs.declared.cmp.Ordering.{Ordering}
use Rattle.std.specs.declared.cmp.Ordering.TheVariants.{Less, Equal, Greater}
use Rattle.lw_stamp.specs.Order.{AtMost}
use Rattle.lw_stamp.specs.TextOrder.{text_cmp}
use Rattle.lw_join.specs.GreaterLaws.{at_most_refl}
use Rattle.lw_reg.specs.OrderLaws.{text_order}
use Rattle.lw_reg.proofs.Members.{none_there, first_there, more_there, there_or_first}
use Rattle.lw_table.specs.inner.Found.{LeastFound, found_or, first_of, if_after, lesser_of}
use Rattle.lw_due.specs.Due.{is_after}

-- what is below is at most
below_at_most : (x y : List ℕ) → text_cmp x y ≡ Less → AtMost text_cmp x y
below_at_most x y h = ap is_gt h

-- the head of texts that rise is below the others
pub below_all : (x : List ℕ) (xs : List (List ℕ)) → AllByRecursion (λ k. text_cmp x k ≡ Less) xs → (y : List ℕ) → Contains xs y → text_cmp x y ≡ Less
below_all x [] h y c = none_there y c
below_all x (z ∷ zs) h y c = go (below_all x zs h.1 y) (there_or_first z zs y c)
  where
    go : (Contains zs y → text_cmp x y ≡ Less) → (y ≡ z) ⊎ Contains zs y → text_cmp x y ≡ Less
    go more (inl same) = subst (λ k. text_cmp x k ≡ Less) (sym same) h.0
    go more (inr there) = more there

module _ {A : Type 0} (f : List ℕ → Option A) where
  not_found : (x e : List ℕ) (b : A) → f x ≡ None → e ≡ x → f e ≡ Some b → ⊥
  not_found x e b none same found = (let bad : None ≡ Some b = sym none ∙ ap f (sym same) ∙ found in cc)

  one_found : (x e : List ℕ) (y b : A) → f x ≡ Some y → e ≡ x → f e ≡ Some b → b ≡ y
  one_found x e y b some same found = (let both : Some b ≡ Some y = sym found ∙ ap f same ∙ some in cc)

-- ---- the first of those that rise
module _ {A : Type 0} (f : List ℕ → Option A) where
  -- of those above an endpoint
  pub first_above : (after : Option (List ℕ)) (es : List (List ℕ)) → first_of (if_after after f) es ≡ first_of f (filter (is_after after) es)
  first_above after [] = refl
  first_above after (e ∷ es) = go (is_after after e) (first_above after es)
    where
      go : (b : Bool) → first_of (if_after after f) es ≡ first_of f (filter (is_after after) es)
          → found_or (cond b (f e) None) (first_of (if_after after f) es) ≡ first_of f (cond b (e ∷ filter (is_after after) es) (filter (is_after after) es))
      go true rest = ap (found_or (f e)) rest
      go false rest = rest

  -- where nothing is found at the next one, the walk goes on
  pub passed_on : (after : Option (List ℕ)) (e : List ℕ) (es : List (List ℕ)) → filter (is_after after) es ≡ e ∷ filter (is_after (Some e)) es → f e ≡ None → first_of (if_after (Some e) f) es ≡ first_of (if_after after f) es
  passed_on after e es next none =
      first_above (Some e) es ∙ sym (first_above after es ∙ ap (first_of f) next ∙ ap (λ o. found_or o (first_of f (filter (is_after (Some e)) es))) none)

  pub found_next : (after : Option (List ℕ)) (e : List ℕ) (es : List (List ℕ)) (a : A) → filter (is_after after) es ≡ e ∷ filter (is_after (Some e)) es → f e ≡ Some a → Some a ≡ first_of (if_after after f) es
  found_next after e es a next some = sym (first_above after es ∙ ap (first_of f) next ∙ ap (λ o. found_or o (first_of f (filter (is_after (Some e)) es))) some)

  pub found_nowhere : (after : Option (List ℕ)) (es : List (List ℕ)) → filter (is_after after) es ≡ [] → None ≡ first_of (if_after after f) es
  found_nowhere after es none = sym (first_above after es ∙ ap (first_of f) none)

-- ---- the least, by the endpoints
module _ {A : Type 0} (at : A → List ℕ) where
  abbrev pub at_cmp : A → A → Ordering
  at_cmp a b = text_cmp (at a) (at b)

  module _ (f : List ℕ → Option A) where
    -- what is found at an endpoint has it
    abbrev Named : List (List ℕ) → Type 0
    Named es = (e : List ℕ) (a : A) → Contains es e → f e ≡ Some a → at a ≡ e

    at_least : (x e : List ℕ) (a b : A) → at a ≡ x → at b ≡ e → AtMost text_cmp x e → AtMost at_cmp a b
    at_least x e a b here there h = subst (λ k. AtMost text_cmp k (at b)) (sym here) (subst (AtMost text_cmp x) (sym there) h)

    -- of endpoints that rise it is the first that is found
    first_found : (es : List (List ℕ)) → IsStrictlySortedBy text_cmp es → Named es → LeastFound at_cmp f (Contains es) (first_of f es)
    unfolding IsStrictlySortedBy
    first_found [] sorted named = λ e b c h. none_there e c
    first_found (x ∷ xs) sorted named = go (f x) refl (first_of f xs) (first_found xs sorted.1 (λ e a c. named e a (more_there x xs e c)))
      where
        go : (o : Option A) → f x ≡ o → (rest : Option A) → LeastFound at_cmp f (Contains xs) rest → LeastFound at_cmp f (Contains (x ∷ xs)) (found_or o rest)
        go None none None h = λ e b c found. elim (there_or_first x xs e c) [
          | inl same ↦ not_found f x e b none same found
          | inr there ↦ h e b there found
        ]
        go None none (Some a) h = record {
          at = h.at;
          there = more_there x xs h.at h.there;
          found = h.found;
          least = λ e b c found. elim (there_or_first x xs e c) [
            | inl same ↦ absurd (not_found f x e b none same found)
            | inr there ↦ h.least e b there found
          ];
        }
        go (Some a) some rest h = record {
          at = x;
          there = first_there x xs x refl;
          found = some;
          least = λ e b c found. at_least x e a b (named x a (first_there x xs x refl) some) (named e b c found) (by e (there_or_first x xs e c));
        }
          where
            by : (e : List ℕ) → (e ≡ x) ⊎ Contains xs e → AtMost text_cmp x e
            by e (inl same) = subst (AtMost text_cmp x) (sym same) (at_most_refl text_order x)
            by e (inr there) = below_at_most x e (below_all x xs sorted.0 e there)

  module _ (Fits Found : A → Type 0) where
    abbrev pub IsFirstFit : Option A → Type 0
    IsFirstFit None = (a : A) → ¬ Fits a
    IsFirstFit (Some a) = Found a × ((b : A) → Fits b → AtMost text_cmp (at a) (at b))

    -- where what is found is right, and something is found wherever something fits
    pub least_fits : (f : List ℕ → Option A) (D : List ℕ → Type 0)
        → ((e : List ℕ) (a : A) → D e → f e ≡ Some a → (at a ≡ e) × Found a)
        → ((a : A) → Fits a → D (at a) × ((b : A) × (f (at a) ≡ Some b)))
        → (o : Option A) → LeastFound at_cmp f D o → IsFirstFit o
    least_fits f D sound whole None h = λ a fits. let w = whole a fits in h (at a) w.1.0 w.0 w.1.1
    least_fits f D sound whole (Some a) h = (
      (sound h.at a h.there h.found).1,
      λ b fits. let w = whole b fits in subst (AtMost text_cmp (at a)) (sound (at b) w.1.0 w.0 w.1.1).0 (h.least (at b) w.1.0 w.0 w.1.1),
    )

    pub first_fits : (f : List ℕ → Option A) (es : List (List ℕ)) → IsStrictlySortedBy text_cmp es
        → ((e : List ℕ) (a : A) → Contains es e → f e ≡ Some a → (at a ≡ e) × Found a)
        → ((a : A) → Fits a → Contains es (at a) × ((b : A) × (f (at a) ≡ Some b)))
        → (o : Option A) → o ≡ first_of f es → IsFirstFit o
    first_fits f es sorted sound whole o same =
        least_fits f (Contains es) sound whole o (subst (LeastFound at_cmp f (Contains es)) (sym same) (first_found f es sorted (λ e a c found. (sound e a c found).0)))

-- ---- the least, by any order
module _ {A : Type 0} {cmp : A → A → Ordering} (total : IsTotalOrder cmp) where
  itself : (a : A) → AtMost cmp a a
  itself a = ap is_gt (tied_itself total a)

  less_at_most : (a b : A) → is_lt (cmp a b) ≡ true → AtMost cmp a b
  less_at_most a b = go (cmp a b)
    where
      go : (r : Ordering) → is_lt r ≡ true → is_gt r ≡ false
      go Less h = refl
      go Equal h = refl
      go Greater h = absurd cc

  not_less : (a b : A) → is_lt (cmp a b) ≡ false → AtMost cmp b a
  not_less a b h = ap is_gt (total.antisymm b a) ∙ go (cmp a b) h
    where
      go : (r : Ordering) → is_lt r ≡ false → is_gt (ordering_reverse r) ≡ false
      go Less h = absurd cc
      go Equal h = refl
      go Greater h = refl

  module _ (f : List ℕ → Option A) (D E : List ℕ → Type 0) where
    -- at the same endpoints the same is found
    pub least_same : ((e : List ℕ) → E e ↔ D e) → (o : Option A) → LeastFound cmp f D o → LeastFound cmp f E o
    least_same same None h = λ e b d found. h e b ((same e).0 d) found
    least_same same (Some a) h = record {
      at = h.at;
      there = (same h.at).1 h.there;
      found = h.found;
      least = λ e b d found. h.least e b ((same e).0 d) found;
    }

    -- one endpoint more
    pub least_more : (x : List ℕ) → ((e : List ℕ) → E e ↔ (D e ⊎ (e ≡ x))) → (a : Option A) → LeastFound cmp f D a → (o : Option A) → f x ≡ o → LeastFound cmp f E (lesser_of cmp a o)
    least_more x more None h None none = λ e b d found. elim ((more e).0 d) [
      | inl old ↦ h e b old found
      | inr same ↦ not_found f x e b none same found
    ]
    least_more x more (Some a) h None none = record {
      at = h.at;
      there = (more h.at).1 (inl h.there);
      found = h.found;
      least = λ e b d found. elim ((more e).0 d) [
        | inl old ↦ h.least e b old found
        | inr same ↦ absurd (not_found f x e b none same found)
      ];
    }
    least_more x more None h (Some y) some = record {
      at = x;
      there = (more x).1 (inr refl);
      found = some;
      least = λ e b d found. elim ((more e).0 d) [
        | inl old ↦ absurd (h e b old found)
        | inr same ↦ subst (AtMost cmp y) (sym (one_found f x e y b some same found)) (itself y)
      ];
    }
    least_more x more (Some a) h (Some y) some = go (is_lt (cmp y a)) refl
      where
        go : (less : Bool) → is_lt (cmp y a) ≡ less → LeastFound cmp f E (cond less (Some y) (Some a))
        go true less = record {
          at = x;
          there = (more x).1 (inr refl);
          found = some;
          least = λ e b d found. elim ((more e).0 d) [
            | inl old ↦ upto total y a b (less_at_most y a less) (h.least e b old found)
            | inr same ↦ subst (AtMost cmp y) (sym (one_found f x e y b some same found)) (itself y)
          ];
        }
        go false less = record {
          at = h.at;
          there = (more h.at).1 (inl h.there);
          found = h.found;
          least = λ e b d found. elim ((more e).0 d) [
            | inl old ↦ h.least e b old found
            | inr same ↦ subst (AtMost cmp a) (sym (one_found f x e y b some same found)) (not_less y a less)
          ];
        }
