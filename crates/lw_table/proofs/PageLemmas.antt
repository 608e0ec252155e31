-- What is found along names that rise is the page that is shown there.
use Rattle.std.proofs.Common.{◌≡◌, ◌⊎◌, inl, inr, ℕ, ◌+◌, ◌<◌, ◌≤◌, Bool, true, false, cond, List, [], ◌∷◌, ◌++◌, length, max, Option, Some, None, is_some, refl, sym, ap, subst, ◌∙◌, arith}
use Rattle.std.specs.Prelude.{◌↔◌, Contains, filter, filter_map}
use Rattle.std.specs.Borrow.{Bor}
use Rattle.std.specs.FinMap.{get}
use Rattle.std.specs.List.{AllByRecursion, cons_option}
use Rattle.std.specs.List.Sorted.{IsStrictlySortedBy}
use Rattle.std.specs.Ordering.{ordering_reverse}
use Rattle.std.specs.declared.cmp.Ordering.TheVariants.{Less, Greater}
use Rattle.std.proofs.lemmas.List.{length-append}
use Rattle.std.proofs.lemmas.List.Elements.{Contains-append_left, Contains-append_right, Contains-append_cases, filter_map-append}
use Rattle.std.proofs.lemmas.List.Kept.{IsStrictlySortedBy-filter}
use Rattle.lw_stamp.specs.TextOrder.{text_cmp}
use Rattle.lw_reg.specs.Marks.{Mark, Marks, NamesAll, among}
use Rattle.lw_reg.specs.OrderLaws.{text_order}
use Rattle.lw_reg.specs.Reading.{shown_in}
use Rattle.lw_reg.specs.Registration.{Registration}
use Rattle.lw_reg.specs.State.{State, IsStateOf}
use Rattle.lw_reg.proofs.Members.{none_there, first_there, more_there, there_or_first}
use Rattle.lw_reg.proofs.Tells.{Tells, Holds}
use Rattle.lw_table.specs.Answers.{IsAfter, IsShownAfter, after_text}
use Rattle.lw_table.specs.Pages.{IsUpTo, IsPage, MovesOn}
use Rattle.lw_table.specs.Table.{IsKept}
use Rattle.lw_table.specs.inner.Found.{view_at}
use Rattle.lw_due.specs.Due.{is_after}
use Rattle.lw_table.specs.inner.Pages.{EndsIn, IsSeen, IsFoundUpTo}
use Rattle.lw_table.proofs.FirstLemmas.{below_all}
use Rattle.lw_table.proofs.LookUpLemmas.{view_reads, shown_kept, after_test, read_names, read_tells, marks_tell}

-- ---- the parts of texts that rise
all_front : (x : List ℕ) (xs ys : List (List ℕ)) → AllByRecursion (λ k. text_cmp x k ≡ Less) (xs ++ ys) → AllByRecursion (λ k. text_cmp x k ≡ Less) xs
all_front x [] ys h = tt
all_front x (z ∷ zs) ys h = (h.0, all_front x zs ys h.1)

front_rises : (xs ys : List (List ℕ)) → IsStrictlySortedBy text_cmp (xs ++ ys) → IsStrictlySortedBy text_cmp xs
unfolding IsStrictlySortedBy
front_rises [] ys h = tt
front_rises (x ∷ xs) ys h = (all_front x xs ys h.0, front_rises xs ys h.1)

front_below : (xs ys : List (List ℕ)) → IsStrictlySortedBy text_cmp (xs ++ ys) → (x y : List ℕ) → Contains xs x → Contains ys y → text_cmp x y ≡ Less
unfolding IsStrictlySortedBy
front_below [] ys h x y c d = none_there x c
front_below (z ∷ zs) ys h x y c d = go (front_below zs ys h.1 x y) (there_or_first z zs x c)
  where
    go : (Contains zs x → Contains ys y → text_cmp x y ≡ Less) → (x ≡ z) ⊎ Contains zs x → text_cmp x y ≡ Less
    go more (inl same) = subst (λ k. text_cmp k y ≡ Less) (sym same) (below_all z (zs ++ ys) h.0 y (Contains-append_right zs ys y d))
    go more (inr there) = more there d

-- what is not below the last is not before it
not_below_last : (x y : List ℕ) → text_cmp x y ≡ Less → ¬ (text_cmp y x ≡ Less)
not_below_last x y h k = (let bad : Less ≡ Greater = sym k ∙ text_order.total.antisymm y x ∙ ap ordering_reverse h in cc)

-- ---- what is found along texts
module _ {A : Type 0} (at : A → List ℕ) (f : List ℕ → Option A) (named : (e : List ℕ) (a : A) → f e ≡ Some a → at a ≡ e) where
  all_found : (x : List ℕ) (a : A) → at a ≡ x → (es : List (List ℕ)) → AllByRecursion (λ k. text_cmp x k ≡ Less) es → AllByRecursion (λ b. text_cmp (at a) (at b) ≡ Less) (filter_map f es)
  all_found x a is [] h = tt
  all_found x a is (e ∷ es) h = go (f e) refl (all_found x a is es h.1)
    where
      go : (o : Option A) → f e ≡ o → AllByRecursion (λ b. text_cmp (at a) (at b) ≡ Less) (filter_map f es) → AllByRecursion (λ b. text_cmp (at a) (at b) ≡ Less) (cons_option o (filter_map f es))
      go None none rest = rest
      go (Some b) some rest = (subst (λ k. text_cmp k (at b) ≡ Less) (sym is) (subst (λ k. text_cmp x k ≡ Less) (sym (named e b some)) h.0), rest)

  pub found_rise : (es : List (List ℕ)) → IsStrictlySortedBy text_cmp es → IsStrictlySortedBy (λ a b. text_cmp (at a) (at b)) (filter_map f es)
  unfolding IsStrictlySortedBy
  found_rise [] h = tt
  found_rise (e ∷ es) h = go (f e) refl (found_rise es h.1)
    where
      go : (o : Option A) → f e ≡ o → IsStrictlySortedBy (λ a b. text_cmp (at a) (at b)) (filter_map f es) → IsStrictlySortedBy (λ a b. text_cmp (at a) (at b)) (cons_option o (filter_map f es))
      go None none rest = rest
      go (Some a) some rest = (all_found e a (named e a some) es h.0, rest)

  pub found_from : (es : List (List ℕ)) (a : A) → Contains (filter_map f es) a → (e : List ℕ) × Contains es e × (f e ≡ Some a)
  found_from [] a c = none_there a c
  found_from (x ∷ xs) a c = go (λ there. let m = found_from xs a there in (m.0, more_there x xs m.0 m.1, m.2)) (f x) refl c
    where
      go : (Contains (filter_map f xs) a → (e : List ℕ) × Contains (x ∷ xs) e × (f e ≡ Some a)) → (o : Option A) → f x ≡ o → Contains (cons_option o (filter_map f xs)) a → (e : List ℕ) × Contains (x ∷ xs) e × (f e ≡ Some a)
      go more None none there = more there
      go more (Some b) some there = elim (there_or_first b (filter_map f xs) a there) [
        | inl same ↦ (x, first_there x xs x refl, some ∙ ap Some (sym same))
        | inr later ↦ more later
      ]

  pub found_there : (es : List (List ℕ)) (e : List ℕ) (a : A) → Contains es e → f e ≡ Some a → Contains (filter_map f es) a
  found_there [] e a c some = none_there e c
  found_there (x ∷ xs) e a c some = go (λ there. found_there xs e a there some) (there_or_first x xs e c)
    where
      put : (o : Option A) → Contains (filter_map f xs) a → Contains (cons_option o (filter_map f xs)) a
      put None there = there
      put (Some b) there = more_there b (filter_map f xs) a there

      go : (Contains xs e → Contains (filter_map f xs) a) → (e ≡ x) ⊎ Contains xs e → Contains (cons_option (f x) (filter_map f xs)) a
      go more (inl same) = subst (λ o. Contains (cons_option o (filter_map f xs)) a) (sym (ap f (sym same) ∙ some)) (first_there a (filter_map f xs) a refl)
      go more (inr there) = put (f x) (more there)

-- ---- those that pass a test
passed : (p : List ℕ → Bool) (xs : List (List ℕ)) (e : List ℕ) → Contains (filter p xs) e → Contains xs e × (p e ≡ true)
passed p [] e c = none_there e c
passed p (x ∷ xs) e c = go (λ there. let m = passed p xs e there in (more_there x xs e m.0, m.1)) (p x) refl c
  where
    go : (Contains (filter p xs) e → Contains (x ∷ xs) e × (p e ≡ true)) → (b : Bool) → p x ≡ b → Contains (cond b (x ∷ filter p xs) (filter p xs)) e → Contains (x ∷ xs) e × (p e ≡ true)
    go more true passes there = elim (there_or_first x (filter p xs) e there) [
      | inl same ↦ (first_there x xs e same, ap p same ∙ passes)
      | inr later ↦ more later
    ]
    go more false fails there = more there

passes : (p : List ℕ → Bool) (xs : List (List ℕ)) (e : List ℕ) → Contains xs e → p e ≡ true → Contains (filter p xs) e
passes p [] e c good = none_there e c
passes p (x ∷ xs) e c good = go (λ there. passes p xs e there good) (there_or_first x xs e c)
  where
    put : (b : Bool) → Contains (filter p xs) e → Contains (cond b (x ∷ filter p xs) (filter p xs)) e
    put true there = more_there x (filter p xs) e there
    put false there = there

    go : (Contains xs e → Contains (filter p xs) e) → (e ≡ x) ⊎ Contains xs e → Contains (cond (p x) (x ∷ filter p xs) (filter p xs)) e
    go more (inl same) = subst (λ b. Contains (cond b (x ∷ filter p xs) (filter p xs)) e) (sym (ap p (sym same) ∙ good)) (first_there x (filter p xs) e same)
    go more (inr there) = put (p x) (more there)

-- ---- the last that was seen
seen_upto : (seen : List (List ℕ)) (last : List ℕ) → EndsIn seen (Some last) → IsStrictlySortedBy text_cmp seen → (e : List ℕ) → Contains seen e → ¬ (text_cmp last e ≡ Less)
seen_upto seen last ends rise e c = go (Contains-append_cases ends.0 (last ∷ []) e (subst (λ l. Contains l e) ends.1 c))
  where
    sorted : IsStrictlySortedBy text_cmp (ends.0 ++ last ∷ [])
    sorted = subst (IsStrictlySortedBy text_cmp) ends.1 rise

    go : Contains ends.0 e ⊎ Contains (last ∷ []) e → ¬ (text_cmp last e ≡ Less)
    go (inl before) = not_below_last e last (front_below ends.0 (last ∷ []) sorted e last before (first_there last [] last refl))
    go (inr one) = elim (there_or_first last [] e one) [
      | inl same ↦ λ less. not_below_last last e less (subst (λ k. text_cmp k last ≡ Less) (sym same) (subst (λ k. text_cmp last k ≡ Less) same less))
      | inr none ↦ none_there e none
    ]

last_there : (seen : List (List ℕ)) (last : List ℕ) → EndsIn seen (Some last) → Contains seen last
last_there seen last ends = subst (λ l. Contains l last) (sym ends.1) (Contains-append_right ends.0 (last ∷ []) last (first_there last [] last refl))

-- ---- the page
module _ (M : Marks) (all_named : NamesAll M) (state : State) (tells : Tells (Holds M) state) (now : ℕ) (kept : List (List ℕ)) (rise : IsStrictlySortedBy text_cmp kept) (kept_are : (e : List ℕ) → Contains kept e ↔ IsKept (get state e)) (after : Option (List ℕ)) where
  abbrev Found : List ℕ → Option Registration
  Found = view_at now state

  abbrev Above : List (List ℕ)
  Above = filter (is_after after) kept

  above_rise : IsStrictlySortedBy text_cmp Above
  above_rise = IsStrictlySortedBy-filter text_cmp (is_after after) kept rise

  named_so : (e : List ℕ) (r : Registration) → Found e ≡ Some r → r.endpoint ≡ e
  named_so e r h = ((view_reads M all_named state tells now e r).0 h).0

  shown_above : (e : List ℕ) (r : Registration) → Contains Above e → Found e ≡ Some r → IsShownAfter M now after r
  shown_above e r c h =
      let s = (view_reads M all_named state tells now e r).0 h in
      (subst (IsAfter after) (sym s.0) ((after_test after e).0 (passed (is_after after) kept e c).1), s.1)

  above_there : (r : Registration) → IsShownAfter M now after r → Contains Above r.endpoint × (Found r.endpoint ≡ Some r)
  above_there r fits =
      let found = (view_reads M all_named state tells now r.endpoint r).1 (refl, fits.1) in
      (passes (is_after after) kept r.endpoint ((kept_are r.endpoint).1 (shown_kept now r.endpoint (get state r.endpoint) r found)) ((after_test after r.endpoint).1 fits.0), found)

  pub page_is : (next : Option (List ℕ)) (page : List Registration) → IsFoundUpTo Found Above next page → IsPage M now after next page
  page_is None page is = record {
    rising = subst (IsStrictlySortedBy (λ x y. text_cmp x.endpoint y.endpoint)) (sym is) (found_rise (λ r. r.endpoint) Found named_so Above above_rise);
    exactly = λ r. (
      λ c. let m = found_from (λ (x : Registration). x.endpoint) Found named_so Above r (subst (λ l. Contains l r) is c) in (shown_above m.0 r m.1 m.2, tt),
      λ fits. let there = above_there r fits.0 in subst (λ l. Contains l r) (sym is) (found_there (λ (x : Registration). x.endpoint) Found named_so Above r.endpoint r there.0 there.1),
    );
  }
  page_is (Some next) page (left, walked) = record {
    rising = subst (IsStrictlySortedBy (λ x y. text_cmp x.endpoint y.endpoint)) (sym walked.page_is) (found_rise (λ r. r.endpoint) Found named_so walked.seen seen_rise);
    exactly = λ r. (there r, back r);
  }
    where
      parts_rise : IsStrictlySortedBy text_cmp (walked.seen ++ left)
      parts_rise = subst (IsStrictlySortedBy text_cmp) walked.parts above_rise

      seen_rise : IsStrictlySortedBy text_cmp walked.seen
      seen_rise = front_rises walked.seen left parts_rise

      there : (r : Registration) → Contains page r → IsShownAfter M now after r × IsUpTo (Some next) r.endpoint
      there r c =
          let m = found_from (λ (x : Registration). x.endpoint) Found named_so walked.seen r (subst (λ l. Contains l r) walked.page_is c) in
          let e = named_so m.0 r m.2 in (
            shown_above m.0 r (subst (λ l. Contains l m.0) (sym walked.parts) (Contains-append_left walked.seen left m.0 m.1)) m.2,
            subst (IsUpTo (Some next)) (sym e) (seen_upto walked.seen next walked.ends seen_rise m.0 m.1),
          )

      back : (r : Registration) → IsShownAfter M now after r × IsUpTo (Some next) r.endpoint → Contains page r
      back r fits =
          let all = above_there r fits.0 in
          let seen : Contains walked.seen r.endpoint = elim (Contains-append_cases walked.seen left r.endpoint (subst (λ l. Contains l r.endpoint) walked.parts all.0)) [
            | inl before ↦ before
            | inr behind ↦ absurd (fits.1 (front_below walked.seen left parts_rise next r.endpoint (last_there walked.seen next walked.ends) behind))
          ] in
          subst (λ l. Contains l r) (sym walked.page_is) (found_there (λ (x : Registration). x.endpoint) Found named_so walked.seen r.endpoint r seen all.1)

-- the next is above
pub moves_on : (found : List ℕ → Option Registration) (kept : List (List ℕ)) (after next : Option (List ℕ)) (page : List Registration) → IsFoundUpTo found (filter (is_after after) kept) next page → MovesOn after next
moves_on found kept after None page is = tt
moves_on found kept after (Some next) page (left, walked) =
    (after_test after next).0 (passed (is_after after) kept next (subst (λ l. Contains l next) (sym walked.parts) (Contains-append_left walked.seen left next (last_there walked.seen next walked.ends)))).1

-- ---- the two kinds of sets
module _ (state : State) (now : ℕ) (kept : List (List ℕ)) (rise : IsStrictlySortedBy text_cmp kept) (kept_are : (e : List ℕ) → Contains kept e ↔ IsKept (get state e)) (after : Option (List ℕ)) (next : Option (List ℕ)) (page : List Registration) (is : IsFoundUpTo (view_at now state) (filter (is_after after) kept) next page) where
  pub read_page : IsPage (shown_in state) now after next page
  read_page = page_is (shown_in state) (read_names state) state (read_tells state) now kept rise kept_are after next page is

  pub marks_page : (ms : List Mark) → NamesAll (among ms) → IsStateOf ms state → IsPage (among ms) now after next page
  marks_page ms p s = page_is (among ms) p state (marks_tell ms p state s) now kept rise kept_are after next page is

-- ---- one step along the names
module _ (found : List ℕ → Option Registration) (all : List (List ℕ)) where
  pub none_seen : IsSeen found all all None []
  none_seen = record { seen = []; parts = refl; ends = refl; page_is = refl }

  pub seen_more : (left rest : List (List ℕ)) (e : List ℕ) (last : Option (List ℕ)) (page new : List Registration) → left ≡ e ∷ rest → IsSeen found all left last page → new ≡ page ++ cons_option (found e) [] → IsSeen found all rest (Some e) new
  seen_more left rest e last page new next walked is = record {
    seen = walked.seen ++ e ∷ [];
    parts = walked.parts ∙ ap (λ l. walked.seen ++ l) next ∙ one_by_one walked.seen;
    ends = (walked.seen, refl);
    page_is = is ∙ ap (λ l. l ++ cons_option (found e) []) walked.page_is ∙ sym (filter_map-append found walked.seen (e ∷ []));
  }
    where
      one_by_one : (xs : List (List ℕ)) → xs ++ e ∷ rest ≡ (xs ++ e ∷ []) ++ rest
      one_by_one [] = refl
      one_by_one (x ∷ xs) = ap (λ l. x ∷ l) (one_by_one xs)

  pub all_seen : (left : List (List ℕ)) (last : Option (List ℕ)) (page : List Registration) → left ≡ [] → IsSeen found all left last page → page ≡ filter_map found all
  all_seen left last page none walked = walked.page_is ∙ ap (filter_map found) (sym (nothing_behind walked.seen) ∙ ap (λ l. walked.seen ++ l) (sym none) ∙ sym walked.parts)
    where
      nothing_behind : (xs : List (List ℕ)) → xs ++ [] ≡ xs
      nothing_behind [] = refl
      nothing_behind (x ∷ xs) = ap (λ l. x ∷ l) (nothing_behind xs)

-- ---- the end of a page
module _ (found : List ℕ → Option Registration) (all left : List (List ℕ)) where
  pub found_up_to : (last : Option (Bor (List ℕ))) (page : List Registration) → is_some last ≡ true → IsSeen found all left (after_text last) page → IsFoundUpTo found all (after_text last) page
  found_up_to None page some walked = absurd cc
  found_up_to (Some last) page some walked = (left, walked)

  none_before : (last : Option (Bor (List ℕ))) (page : List Registration) → is_some last ≡ false → IsSeen found all left (after_text last) page → page ≡ []
  none_before None page none walked = walked.page_is ∙ ap (filter_map found) walked.ends
  none_before (Some last) page none walked = absurd cc

  -- one at most is put where there is room, or where none was seen
  pub one_more_within : (last : Option (Bor (List ℕ))) (page new : List Registration) (o : Option Registration) (limit : ℕ) → IsSeen found all left (after_text last) page → new ≡ page ++ cons_option o [] → (is_some last ≡ false) ⊎ (length page < limit) → length new ≤ max 1 limit
  one_more_within last page new o limit walked is room = elim room [
    | inl none ↦ let empty = ap length (none_before last page none walked) in let longer = one_longer in let most = one_at_most o in omega (arith, empty, longer, most)
    | inr free ↦ let longer = one_longer in let most = one_at_most o in omega (arith, free, longer, most)
  ]
    where
      one_longer : length new ≡ length page + length (cons_option o [])
      one_longer = ap length is ∙ length-append page (cons_option o [])

      one_at_most : (o : Option Registration) → length (cons_option o []) ≤ 1
      one_at_most None = omega arith
      one_at_most (Some r) = omega arith
