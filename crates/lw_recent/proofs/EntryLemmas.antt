-- What a hole, a new entry and a closing up leave of the places under numbers.
use Rattle.std.proofs.Common.{◌≡◌, ◌⊎◌, inl, inr, ℕ, zero, suc, ◌+◌, ◌-◌, ◌<◌, ◌≤◌, List, [], ◌∷◌, ◌++◌, length, Option, Some, None, Bool, true, false, cond, is_some, IfSome, IfNone, Contains, insert, filter, take, drop, map, length-drop, Global, get_or, refl, sym, ap, subst, ◌∙◌, take-append-drop, arith}
use Rattle.std.specs.Option.{option_and_then, option_map}
use Rattle.std.specs.List.{cons_option}
use Rattle.std.specs.List.Sorted.{IsNonDecreasingBy}
use Rattle.std.proofs.lemmas.List.Elements.{Contains-append_left, Contains-append_right, Contains-append_cases, Contains-push, Contains-push_cases, filter_map-append}
use Rattle.std.proofs.lemmas.Bool.{cases_lt}
use Rattle.std.proofs.lemmas.Option.{slice_get-get_or}
use Rattle.lw_recent.specs.declared.entry.Entry.{Entry}
use Rattle.lw_recent.specs.Entries.{number_of, shown, pairs_in, places_in}
use Rattle.lw_recent.specs.inner.Entries.{shown_at, HasHole, with_hole}

-- ---- one element more at the head
module _ {X : Type 0} where
  one_is : (x y : X) → Contains (x ∷ []) y → x ≡ y
  one_is x y h = elim (Contains-push_cases [] x y h) [ inl none ↦ absurd (omega (arith, none.1)) | inr is ↦ is ]

  pub head_cases : (o : Option X) (xs : List X) (y : X) → Contains (cons_option o xs) y → (o ≡ Some y) ⊎ Contains xs y
  head_cases None xs y h = inr h
  head_cases (Some x) xs y h = elim (Contains-append_cases (x ∷ []) xs y h) [ inl one ↦ inl (ap Some (one_is x y one)) | inr more ↦ inr more ]

  pub head_here : (o : Option X) (xs : List X) (y : X) → o ≡ Some y → Contains (cons_option o xs) y
  head_here o xs y h = subst (λ p. Contains (cons_option p xs) y) (sym h) (Contains-append_left (y ∷ []) xs y (Contains-push [] y))

  pub head_more : (o : Option X) (xs : List X) (y : X) → Contains xs y → Contains (cons_option o xs) y
  head_more None xs y h = h
  head_more (Some x) xs y h = Contains-append_right (x ∷ []) xs y h

-- ---- what is shown, and where
pub pairs_at : (xs : List Entry) (i : ℕ) (p : ℕ × ℕ) → shown_at xs i ≡ Some p → Contains (pairs_in xs) p
pairs_at [] i p h = absurd cc
pairs_at (x ∷ xs) zero p h = head_here (shown x) (pairs_in xs) p h
pairs_at (x ∷ xs) (suc i) p h = head_more (shown x) (pairs_in xs) p (pairs_at xs i p h)

pub at_pairs : (xs : List Entry) (p : ℕ × ℕ) → Contains (pairs_in xs) p → (i : ℕ) × (i < length xs) × (shown_at xs i ≡ Some p)
at_pairs [] p h = absurd (omega (arith, h.1))
at_pairs (x ∷ xs) p h = elim (head_cases (shown x) (pairs_in xs) p h) [ inl is ↦ (zero, omega arith, is) | inr more ↦ let r = at_pairs xs p more in (suc r.0, omega (arith, r.1), r.2) ]

-- ---- a hole
pub hole_empty : (xs : List Entry) (i : ℕ) → shown_at (with_hole xs i) i ≡ None
hole_empty [] i = refl
hole_empty (x ∷ xs) zero = refl
hole_empty (x ∷ xs) (suc i) = hole_empty xs i

pub hole_length : (xs : List Entry) (i : ℕ) → length (with_hole xs i) ≡ length xs
hole_length [] i = refl
hole_length (x ∷ xs) zero = refl
hole_length (x ∷ xs) (suc i) = ap suc (hole_length xs i)

pub hole_there : (xs : List Entry) (i : ℕ) → i < length xs → HasHole (with_hole xs i)
hole_there xs i h = (i, record { within = omega (arith, h, hole_length xs i); empty = hole_empty xs i })

hole_number : (xs : List Entry) (i k : ℕ) (d : Entry) → number_of (get_or (with_hole xs i) k d) ≡ number_of (get_or xs k d)
hole_number [] i k d = refl
hole_number (x ∷ xs) zero zero d = refl
hole_number (x ∷ xs) zero (suc k) d = refl
hole_number (x ∷ xs) (suc i) zero d = refl
hole_number (x ∷ xs) (suc i) (suc k) d = hole_number xs i k d

pub hole_rises : (xs : List Entry) (i : ℕ) → IsNonDecreasingBy number_of xs → IsNonDecreasingBy number_of (with_hole xs i)
hole_rises xs i h a b d le lt = omega (arith, hole_number xs i a d, hole_number xs i b d, h a b d le (omega (arith, lt, hole_length xs i)))

cons_less : {X : Type 0} (o : Option X) (xs ys : List X) → length xs + 1 ≡ length ys → length (cons_option o xs) + 1 ≡ length (cons_option o ys)
cons_less None xs ys h = h
cons_less (Some x) xs ys h = omega (arith, h)

head_less : {X : Type 0} (o : Option X) (p : X) (xs : List X) → o ≡ Some p → length xs + 1 ≡ length (cons_option o xs)
head_less None p xs h = absurd cc
head_less (Some x) p xs h = omega arith

-- where a place stood there is one less
pub hole_less : (xs : List Entry) (i : ℕ) (p : ℕ × ℕ) → shown_at xs i ≡ Some p → length (pairs_in (with_hole xs i)) + 1 ≡ length (pairs_in xs)
hole_less [] i p h = absurd cc
hole_less (x ∷ xs) zero p h = head_less (shown x) p (pairs_in xs) h
hole_less (x ∷ xs) (suc i) p h = cons_less (shown x) (pairs_in (with_hole xs i)) (pairs_in xs) (hole_less xs i p h)

pub hole_old : (xs : List Entry) (i : ℕ) (q : ℕ × ℕ) → Contains (pairs_in (with_hole xs i)) q → Contains (pairs_in xs) q
hole_old [] i q h = h
hole_old (x ∷ xs) zero q h = head_more (shown x) (pairs_in xs) q h
hole_old (x ∷ xs) (suc i) q h =
    elim (head_cases (shown x) (pairs_in (with_hole xs i)) q h)
    [ inl is ↦ head_here (shown x) (pairs_in xs) q is | inr more ↦ head_more (shown x) (pairs_in xs) q (hole_old xs i q more) ]

pub hole_new : (xs : List Entry) (i : ℕ) (q : ℕ × ℕ) → Contains (pairs_in xs) q → Contains (pairs_in (with_hole xs i)) q ⊎ (shown_at xs i ≡ Some q)
hole_new [] i q h = inl h
hole_new (x ∷ xs) zero q h = elim (head_cases (shown x) (pairs_in xs) q h) [ inl is ↦ inr is | inr more ↦ inl more ]
hole_new (x ∷ xs) (suc i) q h =
    elim (head_cases (shown x) (pairs_in xs) q h) [
      | inl is ↦ inl (head_here (shown x) (pairs_in (with_hole xs i)) q is)
      | inr more ↦ elim (hole_new xs i q more) [ inl kept ↦ inl (head_more (shown x) (pairs_in (with_hole xs i)) q kept) | inr is ↦ inr is ]
    ]

-- ---- a new entry
pairs_insert : (xs : List Entry) (i : ℕ) (y : Entry) → pairs_in (insert xs i y) ≡ pairs_in (take i xs) ++ cons_option (shown y) (pairs_in (drop i xs))
pairs_insert xs i y = filter_map-append shown (take i xs) (y ∷ drop i xs)

pairs_parts : (xs : List Entry) (i : ℕ) → pairs_in (take i xs) ++ pairs_in (drop i xs) ≡ pairs_in xs
pairs_parts xs i = sym (filter_map-append shown (take i xs) (drop i xs)) ∙ ap pairs_in (take-append-drop i xs)

pub insert_from : (xs : List Entry) (i : ℕ) (y : Entry) (q : ℕ × ℕ) → Contains (pairs_in (insert xs i y)) q → Contains (pairs_in xs) q ⊎ (shown y ≡ Some q)
insert_from xs i y q h =
    elim (Contains-append_cases (pairs_in (take i xs)) (cons_option (shown y) (pairs_in (drop i xs))) q (subst (λ l. Contains l q) (pairs_insert xs i y) h)) [
      | inl before ↦ inl (subst (λ l. Contains l q) (pairs_parts xs i) (Contains-append_left (pairs_in (take i xs)) (pairs_in (drop i xs)) q before))
      | inr after ↦ elim (head_cases (shown y) (pairs_in (drop i xs)) q after) [
        | inl is ↦ inr is
        | inr more ↦ inl (subst (λ l. Contains l q) (pairs_parts xs i) (Contains-append_right (pairs_in (take i xs)) (pairs_in (drop i xs)) q more))
      ]
    ]

pub insert_old : (xs : List Entry) (i : ℕ) (y : Entry) (q : ℕ × ℕ) → Contains (pairs_in xs) q → Contains (pairs_in (insert xs i y)) q
insert_old xs i y q h =
    subst (λ l. Contains l q) (sym (pairs_insert xs i y))
    (elim (Contains-append_cases (pairs_in (take i xs)) (pairs_in (drop i xs)) q (subst (λ l. Contains l q) (sym (pairs_parts xs i)) h)) [
      | inl before ↦ Contains-append_left (pairs_in (take i xs)) (cons_option (shown y) (pairs_in (drop i xs))) q before
      | inr after ↦ Contains-append_right (pairs_in (take i xs)) (cons_option (shown y) (pairs_in (drop i xs))) q (head_more (shown y) (pairs_in (drop i xs)) q after)
    ])

pub insert_new : (xs : List Entry) (i : ℕ) (y : Entry) (q : ℕ × ℕ) → shown y ≡ Some q → Contains (pairs_in (insert xs i y)) q
insert_new xs i y q h =
    subst (λ l. Contains l q) (sym (pairs_insert xs i y))
    (Contains-append_right (pairs_in (take i xs)) (cons_option (shown y) (pairs_in (drop i xs))) q (head_here (shown y) (pairs_in (drop i xs)) q h))

-- ---- closing up
abbrev pub filled : Entry → Bool
filled x = is_some x.place

none_shown : {A B : Type 0} (f : A → B) (o : Option A) → is_some o ≡ false → option_map f o ≡ None
none_shown f None h = refl
none_shown f (Some a) h = absurd cc

some_shown : {A B : Type 0} (f : A → B) (o : Option A) → option_map f o ≡ None → is_some o ≡ false
some_shown f None h = refl
some_shown f (Some a) h = absurd cc

pairs_more : (b : Bool) (x : Entry) (zs xs : List Entry) → filled x ≡ b → pairs_in zs ≡ pairs_in xs → pairs_in (cond b (x ∷ zs) zs) ≡ cons_option (shown x) (pairs_in xs)
pairs_more true x zs xs is h = ap (cons_option (shown x)) h
pairs_more false x zs xs is h = h ∙ ap (λ o. cons_option o (pairs_in xs)) (sym (none_shown (λ (p : ℕ). (x.number, p)) x.place is))

pub pairs_filled : (xs : List Entry) → pairs_in (filter filled xs) ≡ pairs_in xs
pairs_filled [] = refl
pairs_filled (x ∷ xs) = pairs_more (filled x) x (filter filled xs) xs refl (pairs_filled xs)

length_more : {X : Type 0} (b : Bool) (x : X) (zs : List X) (n : ℕ) → length zs ≤ n → length (cond b (x ∷ zs) zs) ≤ suc n
length_more true x zs n h = omega (arith, h)
length_more false x zs n h = omega (arith, h)

filled_upto : (xs : List Entry) → length (filter filled xs) ≤ length xs
filled_upto [] = omega arith
filled_upto (x ∷ xs) = length_more (filled x) x (filter filled xs) (length xs) (filled_upto xs)

filled_step : {X : Type 0} (b : Bool) (x : X) (zs : List X) (n : ℕ) → length zs + 1 ≤ n → length (cond b (x ∷ zs) zs) + 1 ≤ suc n
filled_step true x zs n h = omega (arith, h)
filled_step false x zs n h = omega (arith, h)

-- a list with a hole is longer than its entries with a place
pub filled_less : (xs : List Entry) (i : ℕ) → i < length xs → shown_at xs i ≡ None → length (filter filled xs) + 1 ≤ length xs
filled_less [] i l h = absurd (omega (arith, l))
filled_less (x ∷ xs) zero l h =
    let no = some_shown (λ (p : ℕ). (x.number, p)) x.place h in
    let same = ap (λ b. length (cond b (x ∷ filter filled xs) (filter filled xs))) no in omega (arith, same, filled_upto xs)
filled_less (x ∷ xs) (suc i) l h =
    let less = filled_less xs i (omega (arith, l)) h in
    filled_step (filled x) x (filter filled xs) (length xs) less

-- ---- entries by their numbers
-- two pairs that an option is are one
pub pair_of : (q : Option (ℕ × ℕ)) (a n b e : ℕ) → q ≡ Some (a, b) → q ≡ Some (n, e) → (n ≡ a) × (e ≡ b)
pair_of None a n b e h k = absurd cc
pair_of (Some x) a n b e h k =
    let left : x ≡ (a, b) = cc in
    let right : x ≡ (n, e) = cc in
    (sym (ap (λ (p : ℕ × ℕ). p.0) right) ∙ ap (λ (p : ℕ × ℕ). p.0) left, sym (ap (λ (p : ℕ × ℕ). p.1) right) ∙ ap (λ (p : ℕ × ℕ). p.1) left)

abbrev numbered : ℕ → ℕ → ℕ × ℕ
numbered a place = (a, place)

option_number : (o : Option ℕ) (a n e : ℕ) → option_map (numbered a) o ≡ Some (n, e) → a ≡ n
option_number None a n e h = absurd cc
option_number (Some place) a n e h = (pair_of (Some (a, place)) n a e place h refl).0

pub shown_number : (xs : List Entry) (i n e : ℕ) (d : Entry) → shown_at xs i ≡ Some (n, e) → number_of (get_or xs i d) ≡ n
shown_number [] i n e d h = absurd cc
shown_number (x ∷ xs) zero n e d h = option_number x.place x.number n e h
shown_number (x ∷ xs) (suc i) n e d h = shown_number xs i n e d h

pub shown_there : (xs : List Entry) (i : ℕ) (d : Entry) → i < length xs → shown_at xs i ≡ shown (get_or xs i d)
shown_there xs i d l = ap (option_and_then shown) (slice_get-get_or xs i d l)

-- ---- places alone
pub named_from : (ps : List (ℕ × ℕ)) (e : ℕ) → Contains (map (λ p. p.1) ps) e → (n : ℕ) × Contains ps (n, e)
named_from [] e h = absurd (omega (arith, h.1))
named_from (p ∷ ps) e h =
    elim (head_cases (Some p.1) (map (λ p. p.1) ps) e h) [
      | inl is ↦
          let same : p.1 ≡ e = cc in
          let pair : ℕ → Option (ℕ × ℕ) = λ d. Some (p.0, d) in (p.0, head_here (Some p) ps (p.0, e) (ap pair same))
      | inr more ↦ let r = named_from ps e more in (r.0, head_more (Some p) ps (r.0, e) r.1)
    ]

pub named_to : (ps : List (ℕ × ℕ)) (n e : ℕ) → Contains ps (n, e) → Contains (map (λ p. p.1) ps) e
named_to [] n e h = absurd (omega (arith, h.1))
named_to (p ∷ ps) n e h =
    elim (head_cases (Some p) ps (n, e) h) [
      | inl is ↦ head_here (Some p.1) (map (λ p. p.1) ps) e (ap (option_map (λ p. p.1)) is)
      | inr more ↦ head_more (Some p.1) (map (λ p. p.1) ps) e (named_to ps n e more)
    ]

shown_drop : (xs : List Entry) (i j k : ℕ) → i + j ≡ k → shown_at (drop i xs) j ≡ shown_at xs k
shown_drop xs zero j k h = ap (shown_at xs) (omega (arith, h))
shown_drop [] (suc i) j k h = refl
shown_drop (x ∷ xs) (suc i) j zero h = absurd (omega (arith, h))
shown_drop (x ∷ xs) (suc i) j (suc k) h = shown_drop xs i j k (omega (arith, h))

-- the entries from the place on where numbers come above a given one
module _ (xs : List Entry) (number i : ℕ) (low : (k : ℕ) (d : Entry) → k < i → number_of (get_or xs k d) ≤ number) (high : (k : ℕ) (d : Entry) → i ≤ k → k < length xs → number < number_of (get_or xs k d)) where
  any : Entry
  any = record { number = 0; place = None }

  pub above_from : (n e : ℕ) → Contains (pairs_in (drop i xs)) (n, e) → Contains (pairs_in xs) (n, e) × (number < n)
  above_from n e h =
      let w = at_pairs (drop i xs) (n, e) h in
      let long = length-drop i xs in
      let there = sym (shown_drop xs i w.0 (i + w.0) refl) ∙ w.2 in
      let up = high (i + w.0) any (omega arith) (omega (arith, w.1, long)) in
      let is = shown_number xs (i + w.0) n e any there in
      (pairs_at xs (i + w.0) (n, e) there, omega (arith, up, is))

  pub above_to : (n e : ℕ) → Contains (pairs_in xs) (n, e) → number < n → Contains (pairs_in (drop i xs)) (n, e)
  above_to n e h above =
      let w = at_pairs xs (n, e) h in
      let is = shown_number xs w.0 n e any w.2 in
      elim (cases_lt w.0 i) [
        | inl before ↦ let down = low w.0 any before in absurd (omega (arith, down, is, above))
        | inr after ↦ pairs_at (drop i xs) (w.0 - i) (n, e) (shown_drop xs i (w.0 - i) w.0 (omega (arith, after)) ∙ w.2)
      ]

pub first_hidden : (x : Entry) (xs : List Entry) → x.place ≡ None → places_in (x ∷ xs) ≡ places_in xs
first_hidden x xs h = ap (λ o. map (λ p. p.1) (cons_option (option_map (numbered x.number) o) (pairs_in xs))) h

pub first_shown : (x : Entry) (xs : List Entry) (place : ℕ) → x.place ≡ Some place → places_in (x ∷ xs) ≡ place ∷ places_in xs
first_shown x xs place h = ap (λ o. map (λ p. p.1) (cons_option (option_map (numbered x.number) o) (pairs_in xs))) h
