-- What a look-up in entries whose keys rise finds.
use Rattle.std.proofs.Common.{◌≡◌, ℕ, zero, suc, ◌<◌, ◌≤◌, List, [], ◌∷◌, length, get_or, Bool, true, false, cond, Option, Some, None, map, option_map, refl, sym, ap, ◌∙◌, subst, arith}
use Rattle.std.specs.declared.cmp.Ordering.{Ordering}
use Rattle.std.specs.declared.cmp.Ordering.TheVariants.{Less, Greater}
use Rattle.std.specs.Ordering.{is_eq}
use Rattle.lw_stamp.specs.Order.{IsExactOrder}
use Rattle.lw_join.specs.Options.{option_below}
use Rattle.lw_join.specs.Entries.{AllAbove, Rises, get, entries_below}
use Rattle.lw_join.specs.EntriesLaws.{turned, same_key, get_first}
use Rattle.lw_join.specs.inner.Place.{IsAt, IsGap}
use Rattle.lw_join.proofs.Search.{above_at}

module _ {K J : Type 0} {cmp : K → K → Ordering} (order : IsExactOrder cmp) where
  -- the entry at a place is what its key has
  pub get_at : (es : List (K × J)) (i : ℕ) (d : K × J) → Rises cmp es → i < length es → get cmp es (get_or es i d).0 ≡ Some (get_or es i d).1
  get_at [] i d rises h = absurd (omega arith)
  get_at (e ∷ es) zero d rises h = get_first order e es
  get_at (e ∷ es) (suc i) d rises h =
      let above : cmp (get_or es i d).0 e.0 ≡ Greater = turned order e.0 (get_or es i d).0 Less (above_at order e.0 es i d rises.0 (omega arith)) in
      rw above (get_at es i d rises.1 (omega arith))

  -- a key with a gap is absent
  pub get_gap : (k : K) (es : List (K × J)) (i : ℕ) → ((j : ℕ) (d : K × J) → j < i → cmp (get_or es j d).0 k ≡ Less) → ((j : ℕ) (d : K × J) → i ≤ j → j < length es → cmp (get_or es j d).0 k ≡ Greater) → get cmp es k ≡ None
  get_gap k [] i smaller greater = refl
  get_gap k (e ∷ es) zero smaller greater =
      let back : cmp k e.0 ≡ Less = turned order e.0 k Greater (greater 0 e (omega arith) (omega arith)) in
      rw back (get_gap k es zero (λ j d lt. absurd (omega arith)) (λ j d le lt. greater (suc j) d (omega arith) (omega arith)))
  get_gap k (e ∷ es) (suc i) smaller greater =
      let back : cmp k e.0 ≡ Greater = turned order e.0 k Less (smaller 0 e (omega arith)) in
      rw back (get_gap k es i (λ j d lt. smaller (suc j) d (omega arith)) (λ j d le lt. greater (suc j) d (omega arith) (omega arith)))

  pub get_absent : (k : K) (es : List (K × J)) (i : ℕ) → IsGap cmp es k i → get cmp es k ≡ None
  get_absent k es i gap = get_gap k es i (λ j d lt. gap.smaller j d (omega arith) lt) (λ j d le lt. gap.greater j d le lt)

  pub get_there : (k : K) (es : List (K × J)) (i : ℕ) (d : K × J) → Rises cmp es → IsAt cmp es k i → get cmp es k ≡ Some (get_or es i d).1
  get_there k es i d rises at = ap (get cmp es) (sym (order.exact (get_or es i d).0 k (at.has_key d))) ∙ get_at es i d rises at.in_range

  -- a list is below another where each of its entries is
  module _ (below : J → J → Type 0) where
    pub below_from_each : (xs ys : List (K × J)) → ((k : ℕ) (d : K × J) → k < length xs → option_below below (Some (get_or xs k d).1) (get cmp ys (get_or xs k d).0)) → entries_below cmp below xs ys
    below_from_each [] ys each q = tt
    below_from_each (e ∷ xs) ys each q = below_first e xs ys q (is_eq (cmp q e.0)) refl (each 0 e (omega arith)) (below_from_each xs ys (λ k d lt. each (suc k) d (omega arith)) q)
      where
        below_first : (e : K × J) (xs ys : List (K × J)) (q : K) (s : Bool) → is_eq (cmp q e.0) ≡ s → option_below below (Some e.1) (get cmp ys e.0) → option_below below (get cmp xs q) (get cmp ys q) → option_below below (cond s (Some e.1) (get cmp xs q)) (get cmp ys q)
        below_first e xs ys q true same here rest = subst (λ k. option_below below (Some e.1) (get cmp ys k)) (sym (same_key order q e.0 same)) here
        below_first e xs ys q false same here rest = rest

    pub each_from_below : (xs ys : List (K × J)) (k : ℕ) (e : K × J) → Rises cmp xs → k < length xs → e ≡ get_or xs k e → entries_below cmp below xs ys → option_below below (Some e.1) (get cmp ys e.0)
    each_from_below xs ys k e rises lt read all =
        subst (λ (f : K × J). option_below below (Some f.1) (get cmp ys f.0)) (sym read)
        (subst (λ o. option_below below o (get cmp ys (get_or xs k e).0)) (get_at xs k e rises lt) (all (get_or xs k e).0))

-- other values under the same keys
module _ {K J L : Type 0} (cmp : K → K → Ordering) (f : J → L) where
  get_map_by : (s : Bool) (v : J) (x : Option L) (y : Option J) → x ≡ option_map f y → cond s (Some (f v)) x ≡ option_map f (cond s (Some v) y)
  get_map_by true v x y same = refl
  get_map_by false v x y same = same

  pub get-map : (es : List (K × J)) (k : K) → get cmp (map (λ (e : K × J). (e.0, f e.1)) es) k ≡ option_map f (get cmp es k)
  get-map [] k = refl
  get-map (e ∷ es) k = get_map_by (is_eq (cmp k e.0)) e.1 (get cmp (map (λ (e : K × J). (e.0, f e.1)) es) k) (get cmp es k) (get-map es k)

  above_map : (k : K) (es : List (K × J)) → AllAbove cmp k es → AllAbove cmp k (map (λ (e : K × J). (e.0, f e.1)) es)
  above_map k [] above = tt
  above_map k (e ∷ es) above = (above.0, above_map k es above.1)

  pub Rises-map : (es : List (K × J)) → Rises cmp es → Rises cmp (map (λ (e : K × J). (e.0, f e.1)) es)
  Rises-map [] rises = tt
  Rises-map (e ∷ es) rises = (above_map e.0 es rises.0, Rises-map es rises.1)
