-- What an edit of rising entries does.
use Rattle.std.specs.Result.{is_err}
use Rattle.std.proofs.Common.{Result, Ok, Err, IfOk, IfErr, IsSome, ◌≡◌, ℕ, zero, suc, ◌+◌, ◌<◌, ◌≤◌, List, [], ◌∷◌, ◌++◌, length, get_or, set, Bool, true, false, cond, Some, None, Option, is_none, refl, sym, ap, ◌∙◌, arith}
use Rattle.std.specs.List.{insert}
use Rattle.std.specs.declared.cmp.Ordering.{Ordering}
use Rattle.std.specs.declared.cmp.Ordering.TheVariants.{Less, Equal, Greater}
use Rattle.std.specs.Ordering.{is_eq, match_ordering}
use Rattle.std.specs.Cmp.{tied_back, alike_right}
use Rattle.std.proofs.lemmas.List.Sums.{sum_by-append}
use mathlib.Core.Bool.{true≢false}
use Rattle.lw_stamp.specs.Order.{IsExactOrder}
use Rattle.lw_join.specs.Options.{option_join}
use Rattle.lw_join.specs.Entries.{Rises, get, missing, put, entries_join}
use Rattle.lw_join.specs.EntriesLaws.{turned, above_from, get_below, get_first, get-put, get-join, Rises-join, join_none}
use Rattle.lw_join.specs.inner.Place.{IsAt, IsGap}
use Rattle.lw_join.proofs.Search.{above_at}
use Rattle.lw_join.proofs.Lookups.{get_absent, get_there}

-- the last entry of ys may be joined first
join_last : {K J : Type 0} (cmp : K → K → Ordering) (join : J → J → J) (xs ys : List (K × J)) (e : K × J) → entries_join cmp join xs (ys ++ e ∷ []) ≡ entries_join cmp join (put cmp join e.0 e.1 xs) ys
join_last cmp join xs [] e = refl
join_last cmp join xs (f ∷ ys) e = ap (put cmp join f.0 f.1) (join_last cmp join xs ys e)

is_some_join : {V : Type 0} (join : V → V → V) (o : Option V) (v : V) → is_none (option_join join o (Some v)) ≡ false
is_some_join join None v = refl
is_some_join join (Some x) v = refl

missing_last : {K J : Type 0} (cmp : K → K → Ordering) (xs ys : List (K × J)) (e : K × J) → missing cmp xs (ys ++ e ∷ []) ≡ missing cmp xs ys + cond (is_none (get cmp xs e.0)) 1 0
missing_last cmp xs ys e = sum_by-append (λ f. cond (is_none (get cmp xs f.0)) 1 0) ys (e ∷ []) ∙ omega arith

missing_first : {K J : Type 0} (cmp : K → K → Ordering) (xs ys : List (K × J)) (e : K × J) → missing cmp xs (e ∷ ys) ≡ cond (is_none (get cmp xs e.0)) 1 0 + missing cmp xs ys
missing_first cmp xs ys e = sum_by-append (λ f. cond (is_none (get cmp xs f.0)) 1 0) (e ∷ []) ys ∙ omega arith

not_none : {V : Type 0} (o : Option V) → IsSome o → is_none o ≡ false
not_none None h = absurd (true≢false (sym h))
not_none (Some v) h = refl

some_behind : {V : Type 0} (s : Bool) (v : V) (o : Option V) → IsSome o → IsSome (cond s (Some v) o)
some_behind true v o h = refl
some_behind false v o h = h

some_is : {V : Type 0} (o : Option V) (v : V) → o ≡ Some v → IsSome o
some_is o v h = rw h refl

module _ {K J : Type 0} {cmp : K → K → Ordering} (order : IsExactOrder cmp) where
  -- where the left has each key of the right, none is missing
  pub none_missing : (xs ys : List (K × J)) → ((q : K) → IsSome (get cmp ys q) → IsSome (get cmp xs q)) → missing cmp xs ys ≡ 0
  none_missing xs [] there = refl
  none_missing xs (e ∷ ys) there =
      let here : is_none (get cmp xs e.0) ≡ false = not_none (get cmp xs e.0) (there e.0 (some_is (get cmp (e ∷ ys) e.0) e.1 (get_first order e ys))) in
      let rest : missing cmp xs ys ≡ 0 = none_missing xs ys (λ q h. there q (some_behind (is_eq (cmp q e.0)) e.1 (get cmp ys q) h)) in
      missing_first cmp xs ys e ∙ rw here (omega (arith, rest))

  module _ (join : J → J → J) where
    -- a put at a key that is there joins to its entry
    put_at : (k : K) (v : J) (es : List (K × J)) (i : ℕ) (d : K × J) → Rises cmp es → i < length es → cmp (get_or es i d).0 k ≡ Equal → put cmp join k v es ≡ set es i ((get_or es i d).0, join (get_or es i d).1 v)
    put_at k v [] i d rises h same = absurd (omega arith)
    put_at k v (e ∷ es) zero d rises h same = let back : cmp k e.0 ≡ Equal = tied_back order.total e.0 k same in rw back refl
    put_at k v (e ∷ es) (suc i) d rises h same =
        let below : cmp e.0 k ≡ Less = sym (alike_right order.total (get_or es i d).0 k e.0 same) ∙ above_at order e.0 es i d rises.0 (omega arith) in
        let back : cmp k e.0 ≡ Greater = turned order e.0 k Less below in
        rw back (ap (λ t. e ∷ t) (put_at k v es i d rises.1 (omega arith) same))

    -- a put at a key that is absent adds its entry in the gap
    put_gap : (k : K) (v : J) (es : List (K × J)) (i : ℕ) → i ≤ length es → ((j : ℕ) (d : K × J) → j < i → cmp (get_or es j d).0 k ≡ Less) → ((j : ℕ) (d : K × J) → i ≤ j → j < length es → cmp (get_or es j d).0 k ≡ Greater) → put cmp join k v es ≡ insert es i (k, v)
    put_gap k v [] zero h smaller greater = refl
    put_gap k v [] (suc i) h smaller greater = absurd (omega arith)
    put_gap k v (e ∷ es) zero h smaller greater =
        let back : cmp k e.0 ≡ Less = turned order e.0 k Greater (greater 0 e (omega arith) (omega arith)) in
        rw back refl
    put_gap k v (e ∷ es) (suc i) h smaller greater =
        let back : cmp k e.0 ≡ Greater = turned order e.0 k Less (smaller 0 e (omega arith)) in
        rw back (ap (λ t. e ∷ t) (put_gap k v es i (omega arith) (λ j d lt. smaller (suc j) d (omega arith)) (λ j d le lt. greater (suc j) d (omega arith) (omega arith))))

    length_put_by : (k : K) (v : J) (e : K × J) (es : List (K × J)) (r : Ordering) → cmp k e.0 ≡ r → Rises cmp (e ∷ es) → length (put cmp join k v es) ≡ length es + cond (is_none (get cmp es k)) 1 0 → length (match_ordering r ((k, v) ∷ e ∷ es) ((e.0, join e.1 v) ∷ es) (e ∷ put cmp join k v es)) ≡ length (e ∷ es) + cond (is_none (cond (is_eq r) (Some e.1) (get cmp es k))) 1 0
    length_put_by k v e es Less h rises ih =
        let absent : get cmp es k ≡ None = get_below order k es (above_from order k e.0 es h rises.0) in
        rw absent (omega arith)
    length_put_by k v e es Equal h rises ih = omega arith
    length_put_by k v e es Greater h rises ih = omega arith

    -- a put adds one entry, or none where its key is there
    length-put : (k : K) (v : J) (es : List (K × J)) → Rises cmp es → length (put cmp join k v es) ≡ length es + cond (is_none (get cmp es k)) 1 0
    length-put k v [] rises = omega arith
    length-put k v (e ∷ es) rises = length_put_by k v e es (cmp k e.0) refl rises (length-put k v es rises.1)

    missing_by : (o : Option J) (v : J) (s : Bool) → cond (is_none (cond s (option_join join o (Some v)) o)) 1 0 ≤ cond (is_none o) 1 0
    missing_by o v true = rw (is_some_join join o v) (omega arith)
    missing_by o v false = omega arith

    -- a put makes no key missing
    missing-put : (k : K) (v : J) (xs ys : List (K × J)) → Rises cmp xs → missing cmp (put cmp join k v xs) ys ≤ missing cmp xs ys
    missing-put k v xs [] rises = omega arith
    missing-put k v xs (f ∷ ys) rises =
        let here : cond (is_none (get cmp (put cmp join k v xs) f.0)) 1 0 ≤ cond (is_none (get cmp xs f.0)) 1 0 = rw (get-put order join k v xs rises f.0) (missing_by (get cmp xs f.0) v (is_eq (cmp f.0 k))) in
        let rest : missing cmp (put cmp join k v xs) ys ≤ missing cmp xs ys = missing-put k v xs ys rises in
        omega (arith, missing_first cmp xs ys f, missing_first cmp (put cmp join k v xs) ys f)

    -- a join adds the entries whose keys were missing
    pub length-join : (xs ys : List (K × J)) → Rises cmp xs → Rises cmp ys → length (entries_join cmp join xs ys) ≡ length xs + missing cmp xs ys
    length-join xs [] rises rising = omega arith
    length-join xs (e ∷ ys) rises rising =
        let absent : get cmp ys e.0 ≡ None = get_below order e.0 ys rising.0 in
        let at : get cmp (entries_join cmp join xs ys) e.0 ≡ get cmp xs e.0 = get-join order join xs ys rises rising.1 e.0 ∙ ap (option_join join (get cmp xs e.0)) absent ∙ join_none join (get cmp xs e.0) in
        let added : length (entries_join cmp join xs (e ∷ ys)) ≡ length (entries_join cmp join xs ys) + cond (is_none (get cmp xs e.0)) 1 0 = length-put e.0 e.1 (entries_join cmp join xs ys) (Rises-join order join xs ys rises) ∙ ap (λ o. length (entries_join cmp join xs ys) + cond (is_none o) 1 0) at in
        omega (arith, added, length-join xs ys rises rising.1, missing_first cmp xs ys e)

    pub put_there : (k : K) (v : J) (es : List (K × J)) (i : ℕ) (x : K × J) → Rises cmp es → IsAt cmp es k i → x ≡ get_or es i x → put cmp join k v es ≡ set es i (x.0, join x.1 v)
    put_there k v es i x rises at read = put_at k v es i x rises at.in_range (at.has_key x) ∙ ap (λ (y : K × J). set es i (y.0, join y.1 v)) (sym read)

    pub put_absent : (k : K) (v : J) (es : List (K × J)) (i : ℕ) → IsGap cmp es k i → put cmp join k v es ≡ insert es i (k, v)
    put_absent k v es i gap = put_gap k v es i gap.in_range (λ j d lt. gap.smaller j d (omega arith) lt) (λ j d le lt. gap.greater j d le lt)

    -- room that was enough is enough after one more put
    pub room_after : (xs ys zs : List (K × J)) (k : K) (v : J) (room : ℕ) → ys ≡ zs ++ (k, v) ∷ [] → Rises cmp xs → length xs + missing cmp xs ys ≤ room → length (put cmp join k v xs) + missing cmp (put cmp join k v xs) zs ≤ room
    room_after xs ys zs k v room split rises h =
        let split_count : missing cmp xs ys ≡ missing cmp xs zs + cond (is_none (get cmp xs k)) 1 0 = ap (missing cmp xs) split ∙ missing_last cmp xs zs (k, v) in
        omega (arith, length-put k v xs rises, missing-put k v xs zs rises)

    pub joined_after : (xs ys zs : List (K × J)) (k : K) (v : J) → ys ≡ zs ++ (k, v) ∷ [] → entries_join cmp join (put cmp join k v xs) zs ≡ entries_join cmp join xs ys
    joined_after xs ys zs k v split = sym (ap (entries_join cmp join xs) split ∙ join_last cmp join xs zs (k, v))

  not_missing : (es : List (K × J)) (k : K) (i : ℕ) → Rises cmp es → IsAt cmp es k i → is_none (get cmp es k) ≡ false
  not_missing [] k i rises at = absurd (omega (arith, at.in_range))
  not_missing (e ∷ es) k i rises at = ap is_none (get_there order k (e ∷ es) i e rises at)

  pub found_or_not : (es : List (K × J)) (k : K) (r : Result ℕ ℕ) → Rises cmp es → IfOk r (IsAt cmp es k) → IfErr r (IsGap cmp es k) → is_err r ≡ is_none (get cmp es k)
  found_or_not es k (Ok i) rises at gap = sym (not_missing es k i rises at)
  found_or_not es k (Err i) rises at gap = sym (ap is_none (get_absent order k es i gap))
