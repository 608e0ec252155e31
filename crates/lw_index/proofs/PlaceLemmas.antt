-- What becomes of pairs where one is put in or taken out, and which of them have a key.
use Rattle.std.proofs.Common.{◌≡◌, ◌⊎◌, inl, inr, ◌↔◌, ℕ, ◌<◌, ◌≤◌, List, [], ◌∷◌, Bool, true, false, cond, Contains, filter, map, refl, sym, ap, subst, ◌∙◌, arith}
use Rattle.std.specs.declared.cmp.Ordering.{Ordering}
use Rattle.std.specs.declared.cmp.Ordering.TheVariants.{Less, Equal, Greater}
use Rattle.std.specs.declared.ops.Bound.TheVariants.{Included}
use Rattle.std.specs.Ordering.{is_eq, is_gt, nat_cmp, ordering_then, ordering_reverse, MatchOrdering}
use Rattle.std.specs.Cmp.{IsTotalOrder}
use Rattle.std.specs.BTreeSet.{BTreeSet, contains}
use Rattle.std.specs.BTreeMap.Range.{range_contains}
use Rattle.std.proofs.lemmas.Bool.{cases_Bool}
use Rattle.std.proofs.lemmas.Cmp.{ranked, tied_itself, eq_by_cmp_equiv, on_total, then_total, nat_cmp_total}
use Rattle.std.proofs.lemmas.List.Elements.{All-weaker, All-map, All-filter, All-contains, All-contains_itself, filter_passes, Contains-append_left, Contains-append_right, Contains-append_cases, Contains-push, Contains-push_cases}
use Rattle.std.proofs.lemmas.Map.Lookups.{exact_pairs, exact_unsigned}
use Rattle.std.proofs.lemmas.Map.Views.{btree_set_contains_iff, tells_apart, IsInRange-from_range_contains, range_contains-from_IsInRange}
use Rattle.lw_stamp.specs.Order.{IsExact}
use Rattle.lw_index.specs.Places.{IsPlaceOf, IsPairOf}
use Rattle.lw_index.specs.Places.{AreShort}

-- ---- elements of lists
module _ {X : Type 0} where
  first_there : (x : X) (xs : List X) → Contains (x ∷ xs) x
  first_there x xs = Contains-append_left (x ∷ []) xs x (Contains-push [] x)

  more_there : (y : X) (xs : List X) (x : X) → Contains xs x → Contains (y ∷ xs) x
  more_there y xs x h = Contains-append_right (y ∷ []) xs x h

  first_or_more : (y : X) (xs : List X) (x : X) → Contains (y ∷ xs) x → (x ≡ y) ⊎ Contains xs x
  first_or_more y xs x h = elim (Contains-append_cases (y ∷ []) xs x h) [
    | inl one ↦ elim (Contains-push_cases [] y x one) [ inl none ↦ absurd (omega (arith, none.1)) | inr is ↦ inl (sym is) ]
    | inr more ↦ inr more
  ]

  passed : (test : X → Bool) (xs : List X) (x : X) → Contains (filter test xs) x → Contains xs x × (test x ≡ true)
  passed test xs x h = (
    All-contains (Contains xs) (filter test xs) x (All-filter test (Contains xs) xs (All-contains_itself xs)) h,
    All-contains (λ y. test y ≡ true) (filter test xs) x (filter_passes test xs) h,
  )

  passes : (test : X → Bool) (xs : List X) (x : X) → Contains xs x → test x ≡ true → Contains (filter test xs) x
  passes test [] x h good = absurd (omega (arith, h.1))
  passes test (y ∷ ys) x h good = go (first_or_more y ys x h) (λ more. passes test ys x more good)
    where
      kept : (b : Bool) → Contains (filter test ys) x → Contains (cond b (y ∷ filter test ys) (filter test ys)) x
      kept true there = more_there y (filter test ys) x there
      kept false there = there

      go : (x ≡ y) ⊎ Contains ys x → (Contains ys x → Contains (filter test ys) x) → Contains (cond (test y) (y ∷ filter test ys) (filter test ys)) x
      go (inl is) more =
          subst (λ b. Contains (cond b (y ∷ filter test ys) (filter test ys)) x) (sym (ap test (sym is) ∙ good))
          (subst (λ z. Contains (y ∷ filter test ys) z) (sym is) (first_there y (filter test ys)))
      go (inr later) more = kept (test y) (more later)

module _ {X Y : Type 0} (f : X → Y) where
  mapped_from : (xs : List X) (y : Y) → Contains (map f xs) y → (x : X) × Contains xs x × (f x ≡ y)
  mapped_from xs y h =
      let Found : Y → Type 0 = λ z. (x : X) × Contains xs x × (f x ≡ z) in
      All-contains Found (map f xs) y (All-map Found f xs (All-weaker (Contains xs) (λ x. Found (f x)) (λ x there. (x, there, refl)) xs (All-contains_itself xs))) h

  mapped_to : (xs : List X) (x : X) → Contains xs x → Contains (map f xs) (f x)
  mapped_to [] x h = absurd (omega (arith, h.1))
  mapped_to (y ∷ ys) x h = elim (first_or_more y ys x h) [
    | inl is ↦ subst (λ z. Contains (map f (y ∷ ys)) (f z)) (sym is) (first_there (f y) (map f ys))
    | inr more ↦ more_there (f y) (map f ys) (f x) (mapped_to ys x more)
  ]

-- ---- the order of pairs
abbrev pub pair_cmp : {K : Type 0} → (K → K → Ordering) → K × ℕ → K × ℕ → Ordering
pair_cmp cmp x y = ordering_then (cmp x.0 y.0) (nat_cmp x.1 y.1)

-- the pairs of the second list, and this one
abbrev pub More : {K : Type 0} → List (K × ℕ) → K → ℕ → List (K × ℕ) → Type 0
More {K} new key place old = (k : K) (p : ℕ) → IsPlaceOf new k p ↔ (IsPlaceOf old k p ⊎ IsPairOf key place k p)

-- the pairs of the second list without this one
abbrev pub Fewer : {K : Type 0} → List (K × ℕ) → K → ℕ → List (K × ℕ) → Type 0
Fewer {K} new key place old = (k : K) (p : ℕ) → IsPlaceOf new k p ↔ (IsPlaceOf old k p × (IsPairOf key place k p → ⊥))

module _ {K : Type 0} {cmp : K → K → Ordering} (o : IsTotalOrder cmp) (exact : IsExact cmp) where
  pair_total : IsTotalOrder (pair_cmp cmp)
  pair_total = then_total (on_total (λ (t : K × ℕ). t.0) o) (on_total (λ (t : K × ℕ). t.1) nat_cmp_total)

  pair_exact : IsExact (pair_cmp cmp)
  pair_exact = exact_pairs cmp nat_cmp exact exact_unsigned

  -- whether a set has the pair
  pub has_iff : (s : BTreeSet (K × ℕ)) (k : K) (p : ℕ) → (contains (pair_cmp cmp) s (k, p) ≡ true) ↔ IsPlaceOf s.keys k p
  has_iff s k p = btree_set_contains_iff pair_total pair_exact s (k, p)

  same_pair : (key : K) (place : ℕ) (k : K) (p : ℕ) → is_eq (pair_cmp cmp (key, place) (k, p)) ≡ true → IsPairOf key place k p
  same_pair key place k p h =
      let is = tells_apart pair_exact (key, place) (k, p) h in (sym (ap (λ (t : K × ℕ). t.0) is), sym (ap (λ (t : K × ℕ). t.1) is))

  pair_same : (key : K) (place : ℕ) (k : K) (p : ℕ) → IsPairOf key place k p → is_eq (pair_cmp cmp (key, place) (k, p)) ≡ true
  pair_same key place k p h =
      let is : (k, p) ≡ (key, place) = λ i. (h.0 i, h.1 i) in
      subst (λ (t : K × ℕ). is_eq (pair_cmp cmp (key, place) t) ≡ true) (sym is) ((eq_by_cmp_equiv pair_total).refl (key, place))

  -- ---- one pair more, and one less
  pub one_more : (s n : BTreeSet (K × ℕ)) (key : K) (place : ℕ)
      → ((q : K × ℕ) → contains (pair_cmp cmp) n q ≡ cond (is_eq (pair_cmp cmp (key, place) q)) true (contains (pair_cmp cmp) s q))
      → More n.keys key place s.keys
  one_more s n key place answers k p = (
    λ h. elim (cases_Bool (is_eq (pair_cmp cmp (key, place) (k, p)))) [
      | inl same ↦ inr (same_pair key place k p same)
      | inr other ↦ inl ((has_iff s k p).0 (sym (answers (k, p) ∙ ap (λ b. cond b true (contains (pair_cmp cmp) s (k, p))) other) ∙ (has_iff n k p).1 h))
    ],
    λ h. (has_iff n k p).0 (answers (k, p) ∙ elim h [
      | inl there ↦ either (is_eq (pair_cmp cmp (key, place) (k, p))) (contains (pair_cmp cmp) s (k, p)) ((has_iff s k p).1 there)
      | inr pair ↦ ap (λ b. cond b true (contains (pair_cmp cmp) s (k, p))) (pair_same key place k p pair)
    ]),
  )
    where
      either : (a b : Bool) → b ≡ true → cond a true b ≡ true
      either true b h = refl
      either false b h = h

  pub one_less : (s n : BTreeSet (K × ℕ)) (key : K) (place : ℕ)
      → ((q : K × ℕ) → contains (pair_cmp cmp) n q ≡ cond (is_eq (pair_cmp cmp (key, place) q)) false (contains (pair_cmp cmp) s q))
      → Fewer n.keys key place s.keys
  one_less s n key place answers k p = (
    λ h.
        let left = parts (is_eq (pair_cmp cmp (key, place) (k, p))) (contains (pair_cmp cmp) s (k, p)) (sym (answers (k, p)) ∙ (has_iff n k p).1 h) in
        ((has_iff s k p).0 left.1, λ pair. let same = pair_same key place k p pair in let other = left.0 in absurd cc),
    λ h. (has_iff n k p).0 (answers (k, p) ∙ elim (cases_Bool (is_eq (pair_cmp cmp (key, place) (k, p)))) [
      | inl same ↦ absurd (h.1 (same_pair key place k p same))
      | inr other ↦ ap (λ b. cond b false (contains (pair_cmp cmp) s (k, p))) other ∙ (has_iff s k p).1 h.0
    ]),
  )
    where
      parts : (a b : Bool) → cond a false b ≡ true → (a ≡ false) × (b ≡ true)
      parts true b h = absurd cc
      parts false b h = (refl, h)

  -- ---- the pairs of a key
  not_above : (x y : ℕ) → x ≤ y → is_gt (nat_cmp x y) ≡ false
  not_above x y le = go (nat_cmp x y) (ranked x y (nat_cmp x y) refl)
    where
      go : (r : Ordering) → MatchOrdering r (x < y) (x ≡ y) (y < x) → is_gt r ≡ false
      go Less m = refl
      go Equal m = refl
      go Greater m = absurd (omega (arith, le, m))

  -- between two pairs of one key
  between : (key : K) (low high : ℕ) (q : K × ℕ) → is_gt (pair_cmp cmp (key, low) q) ≡ false → is_gt (pair_cmp cmp q (key, high)) ≡ false → q.0 ≡ key
  between key low high q above below = go (cmp q.0 key) refl (o.antisymm key q.0)
    where
      go : (r : Ordering) → cmp q.0 key ≡ r → cmp key q.0 ≡ ordering_reverse (cmp q.0 key) → q.0 ≡ key
      go Less is back =
          let up : cmp key q.0 ≡ Greater = back ∙ ap ordering_reverse is in
          let other = sym (ap (λ (c : Ordering). is_gt (ordering_then c (nat_cmp low q.1))) up) ∙ above in absurd cc
      go Equal is back = exact q.0 key is
      go Greater is back = let other = sym (ap (λ (c : Ordering). is_gt (ordering_then c (nat_cmp q.1 high))) is) ∙ below in absurd cc

  within : (key : K) (low high : ℕ) → low ≤ high → is_gt (pair_cmp cmp (key, low) (key, high)) ≡ false
  within key low high le = ap (λ (c : Ordering). is_gt (ordering_then c (nat_cmp low high))) (tied_itself o key) ∙ not_above low high le

  -- the places of the pairs from the first to the last of a key are those of the key
  of_bounds : (key : K) (pairs : List (K × ℕ)) (p : ℕ) → AreShort pairs
      → Contains (map (λ (t : K × ℕ). t.1) (filter (range_contains (pair_cmp cmp) (Included (key, 0)) (Included (key, 4294967295))) pairs)) p ↔ IsPlaceOf pairs key p
  of_bounds key pairs p short =
      let test : K × ℕ → Bool = range_contains (pair_cmp cmp) (Included (key, 0)) (Included (key, 4294967295)) in (
        λ h.
            let found = mapped_from (λ (t : K × ℕ). t.1) (filter test pairs) p h in
            let there = passed test pairs found.0 found.1 in
            let bounds = IsInRange-from_range_contains pair_total (Included (key, 0)) (Included (key, 4294967295)) found.0 there.1 in
            let same = between key 0 4294967295 found.0 bounds.0 bounds.1 in
            let is : found.0 ≡ (key, p) = λ i. (same i, found.2 i) in
            subst (Contains pairs) is there.0,
        λ h. mapped_to (λ (t : K × ℕ). t.1) (filter test pairs) (key, p) (passes test pairs (key, p) h
            (range_contains-from_IsInRange pair_total (Included (key, 0)) (Included (key, 4294967295)) (key, p)
            (within key 0 p (omega arith), within key p 4294967295 (let less = short key p h in omega (arith, less))))),
      )

  pub of_key : (key : K) (pairs part : List (K × ℕ)) (p : ℕ) → AreShort pairs → (low high : K × ℕ) → low ≡ (key, 0) → high ≡ (key, 4294967295)
      → part ≡ filter (range_contains (pair_cmp cmp) (Included low) (Included high)) pairs
      → Contains (map (λ (t : K × ℕ). t.1) part) p ↔ IsPlaceOf pairs key p
  of_key key pairs part p short low high low_is high_is is =
      let Of : List (K × ℕ) → Type 0 = λ l. Contains (map (λ (t : K × ℕ). t.1) l) p ↔ IsPlaceOf pairs key p in
      let both : part ≡ filter (range_contains (pair_cmp cmp) (Included (key, 0)) (Included (key, 4294967295))) pairs =
      is ∙ ap (λ (b : K × ℕ). filter (range_contains (pair_cmp cmp) (Included b) (Included high)) pairs) low_is
      ∙ ap (λ (b : K × ℕ). filter (range_contains (pair_cmp cmp) (Included (key, 0)) (Included b)) pairs) high_is in
      subst Of (sym both) (of_bounds key pairs p short)
