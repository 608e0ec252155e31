-- The endpoints that are shown, found one after another.
use Rattle.std.proofs.Common.{◌≡◌, ◌⊎◌, inl, inr, ℕ, suc, ◌+◌, ◌-◌, List, [], ◌∷◌, ◌++◌, length, Option, Some, None, Bool, true, false, sym, refl, ap, ◌∙◌, subst, arith}
use Rattle.std.specs.Prelude.{Contains, slice_get}
use Rattle.std.specs.List.{AllByRecursion}
use Rattle.std.specs.Ordering.{is_gt}
use Rattle.std.specs.List.Sorted.{IsStrictlySortedBy}
use Rattle.std.specs.declared.cmp.Ordering.{Ordering}
use Rattle.std.specs.declared.cmp.Ordering.TheVariants.{Less, Equal, Greater}
use Rattle.std.proofs.lemmas.List.{length_push, get_or_push}
use Rattle.std.proofs.lemmas.List.Elements.{Contains-push, Contains-push_cases, Contains-append_left}
use Rattle.std.proofs.lemmas.Option.{slice_get_read}
use Rattle.lw_stamp.specs.Order.{AtMost}
use Rattle.lw_stamp.specs.TextOrder.{text_cmp}
use Rattle.lw_reg.specs.Marks.{Marks}
use Rattle.lw_reg.specs.OrderLaws.{text_order}
use Rattle.lw_reg.specs.Registration.{Registration}
use Rattle.lw_reg.specs.Showing.{IsShown}
use Rattle.lw_reg.proofs.Members.{none_there, first_there, more_there}
use Rattle.lw_table.specs.Answers.{IsAfter, IsFirst, IsShownAfter, FirstAfter}
use Rattle.uses.specs.Naming.{IsName, AreNames, last_of}

-- ---- lists of texts
less_or_same : (x y : List ℕ) → AtMost text_cmp x y → (text_cmp x y ≡ Less) ⊎ (x ≡ y)
less_or_same x y = go (text_cmp x y) refl
  where
    go : (o : Ordering) → text_cmp x y ≡ o → AtMost text_cmp x y → (text_cmp x y ≡ Less) ⊎ (x ≡ y)
    go Less e h = inl e
    go Equal e h = inr (text_order.exact x y e)
    go Greater e h = absurd (let bad : true ≡ false = sym (ap is_gt e) ∙ h in cc)

last_push : (names : List (List ℕ)) (e : List ℕ) → last_of (names ++ e ∷ []) ≡ Some e
last_push names e =
    let long = length_push names e in
    slice_get_read (names ++ e ∷ []) (length (names ++ e ∷ [])) (length (names ++ e ∷ []) - 1) e refl (omega (arith, long)) (sym (get_or_push names e e (length (names ++ e ∷ []) - 1) (omega (arith, long))))

above_push : (x : List ℕ) (xs : List (List ℕ)) (e : List ℕ) → AllByRecursion (λ y. text_cmp x y ≡ Less) xs → text_cmp x e ≡ Less → AllByRecursion (λ y. text_cmp x y ≡ Less) (xs ++ e ∷ [])
above_push x [] e h less = (less, tt)
above_push x (y ∷ ys) e h less = (h.0, above_push x ys e h.1 less)

rising_push : (xs : List (List ℕ)) (e : List ℕ) → IsStrictlySortedBy text_cmp xs → ((x : List ℕ) → Contains xs x → text_cmp x e ≡ Less) → IsStrictlySortedBy text_cmp (xs ++ e ∷ [])
unfolding IsStrictlySortedBy
rising_push [] e h below = (tt, tt)
rising_push (x ∷ xs) e h below = (above_push x xs e h.0 (below x (first_there x xs x refl)), rising_push xs e h.1 (λ y there. below y (more_there x xs y there)))

rising_none : IsStrictlySortedBy text_cmp []
unfolding IsStrictlySortedBy
rising_none = tt

-- ---- the names so far
-- They rise, are shown, and are below all that is above the last of them; each endpoint that is shown is one of them, or
-- above the last.
pub record FoundSoFar (M : Marks) (now : ℕ) (names : List (List ℕ)) : Type 0 where
  pub rising : IsStrictlySortedBy text_cmp names
  pub shown : (e : List ℕ) → Contains names e → IsName M now e
  pub below : (f : List ℕ) → IsAfter (last_of names) f → (e : List ℕ) → Contains names e → text_cmp e f ≡ Less
  pub rest : (r : Registration) → IsShown M now r → Contains names r.endpoint ⊎ IsAfter (last_of names) r.endpoint

module _ (M : Marks) (now : ℕ) where
  pub none_found : FoundSoFar M now []
  none_found = record {
    rising = rising_none;
    shown = λ e there. none_there e there;
    below = λ f after e there. none_there e there;
    rest = λ r shown. inr tt;
  }

  module _ (names : List (List ℕ)) (r : Registration) (so_far : FoundSoFar M now names) (found : FirstAfter M now (last_of names) (Some r)) where
    below_new : (e : List ℕ) → Contains names e → text_cmp e r.endpoint ≡ Less
    below_new e there = so_far.below r.endpoint found.fits.0 e there

    is_after : (f : List ℕ) → text_cmp r.endpoint f ≡ Less → IsAfter (last_of (names ++ r.endpoint ∷ [])) f
    is_after f less = subst (λ (o : Option (List ℕ)). IsAfter o f) (sym (last_push names r.endpoint)) less

    now_after : (f : List ℕ) → IsAfter (last_of (names ++ r.endpoint ∷ [])) f → text_cmp r.endpoint f ≡ Less
    now_after f after = subst (λ (o : Option (List ℕ)). IsAfter o f) (last_push names r.endpoint) after

    shown_more : (e : List ℕ) → Contains names e ⊎ (r.endpoint ≡ e) → IsName M now e
    shown_more e (inl there) = so_far.shown e there
    shown_more e (inr same) = (r, same, found.fits.1)

    below_more : (f : List ℕ) → text_cmp r.endpoint f ≡ Less → (e : List ℕ) → Contains names e ⊎ (r.endpoint ≡ e) → text_cmp e f ≡ Less
    below_more f less e (inl there) = text_order.total.trans e r.endpoint f (below_new e there) less
    below_more f less e (inr same) = subst (λ (x : List ℕ). text_cmp x f ≡ Less) same less

    next_or_later : (q : Registration) → (text_cmp r.endpoint q.endpoint ≡ Less) ⊎ (r.endpoint ≡ q.endpoint)
        → Contains (names ++ r.endpoint ∷ []) q.endpoint ⊎ IsAfter (last_of (names ++ r.endpoint ∷ [])) q.endpoint
    next_or_later q (inl less) = inr (is_after q.endpoint less)
    next_or_later q (inr same) = inl (subst (Contains (names ++ r.endpoint ∷ [])) same (Contains-push names r.endpoint))

    rest_more : (q : Registration) → IsShown M now q → Contains names q.endpoint ⊎ IsAfter (last_of names) q.endpoint
        → Contains (names ++ r.endpoint ∷ []) q.endpoint ⊎ IsAfter (last_of (names ++ r.endpoint ∷ [])) q.endpoint
    rest_more q shown (inl there) = inl (Contains-append_left names (r.endpoint ∷ []) q.endpoint there)
    rest_more q shown (inr after) = next_or_later q (less_or_same r.endpoint q.endpoint (found.first q (after, shown)))

    one_found : FoundSoFar M now (names ++ r.endpoint ∷ [])
    one_found = record {
      rising = rising_push names r.endpoint so_far.rising below_new;
      shown = λ e there. shown_more e (Contains-push_cases names r.endpoint e there);
      below = λ f after e there. below_more f (now_after f after) e (Contains-push_cases names r.endpoint e there);
      rest = λ q shown. rest_more q shown (so_far.rest q shown);
    }

  -- one more was found
  pub more_found : (names after : List (List ℕ)) (r : Registration) → FoundSoFar M now names → FirstAfter M now (last_of names) (Some r) → after ≡ names ++ r.endpoint ∷ [] → FoundSoFar M now after
  more_found names after r so_far found is = subst (FoundSoFar M now) (sym is) (one_found names r so_far found)

  -- there is no more
  pub all_found : (names : List (List ℕ)) → FoundSoFar M now names → FirstAfter M now (last_of names) None → AreNames M now names
  all_found names so_far none = record {
    rising = so_far.rising;
    all = λ e. (so_far.shown e, λ x. known e x (so_far.rest x.0 x.2));
  }
    where
      known : (e : List ℕ) (x : IsName M now e) → Contains names x.0.endpoint ⊎ IsAfter (last_of names) x.0.endpoint → Contains names e
      known e x (inl there) = subst (Contains names) x.1 there
      known e x (inr after) = absurd (none x.0 (after, x.2))
