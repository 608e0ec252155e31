-- The laws of lists of entries whose keys rise.
use Rattle.std.specs.Prelude.{◌≡◌, List, [], ◌∷◌, Bool, true, false, Option, Some, None, cond, ◌&&◌, refl}
use Rattle.std.specs.declared.cmp.Ordering.{Ordering}
use Rattle.std.specs.declared.cmp.Ordering.TheVariants.{Less, Equal, Greater}
use Rattle.std.specs.Ordering.{is_eq, is_lt, match_ordering, ordering_reverse, Ordering-set}
use Rattle.std.specs.Coded.{×_prop, Unit-prop}
use Rattle.std.specs.Cmp.{tied_itself}
use Rattle.std.proofs.Common.{sym, ap, ◌∙◌, subst}
use mathlib.Core.Bool.{true≢false}
use Rattle.lw_stamp.specs.Order.{IsExactOrder}
use Rattle.lw_join.specs.Options.{option_join}
use Rattle.lw_join.specs.Entries.{AllAbove, Rises, all_above, rises, get, put, entries_join}

pub AllAbove-prop : {K J : Type 0} (cmp : K → K → Ordering) (k : K) (es : List (K × J)) → IsProp (AllAbove cmp k es)
AllAbove-prop cmp k [] = Unit-prop
AllAbove-prop cmp k (e ∷ es) = ×_prop (Ordering-set _ _) (AllAbove-prop cmp k es)

pub Rises-prop : {K J : Type 0} (cmp : K → K → Ordering) (es : List (K × J)) → IsProp (Rises cmp es)
Rises-prop cmp [] = Unit-prop
Rises-prop cmp (e ∷ es) = ×_prop (AllAbove-prop cmp e.0 es) (Rises-prop cmp es)

pub is_Less : (r : Ordering) → is_lt r ≡ true → r ≡ Less
is_Less Less h = refl
is_Less Equal h = absurd (true≢false (sym h))
is_Less Greater h = absurd (true≢false (sym h))

both_true : (a b : Bool) → (a && b) ≡ true → (a ≡ true) × (b ≡ true)
both_true true b h = (refl, h)
both_true false b h = absurd (true≢false (sym h))

and_true : (a b : Bool) → a ≡ true → b ≡ true → (a && b) ≡ true
and_true a b h k = rw (h, k) refl

AllAbove-from_test : {K J : Type 0} (cmp : K → K → Ordering) (k : K) (es : List (K × J)) → all_above cmp k es ≡ true → AllAbove cmp k es
AllAbove-from_test cmp k [] h = tt
AllAbove-from_test cmp k (e ∷ es) h = let p = both_true (is_lt (cmp k e.0)) (all_above cmp k es) h in (is_Less (cmp k e.0) p.0, AllAbove-from_test cmp k es p.1)

pub Rises-from_test : {K J : Type 0} (cmp : K → K → Ordering) (es : List (K × J)) → rises cmp es ≡ true → Rises cmp es
Rises-from_test cmp [] h = tt
Rises-from_test cmp (e ∷ es) h = let p = both_true (all_above cmp e.0 es) (rises cmp es) h in (AllAbove-from_test cmp e.0 es p.0, Rises-from_test cmp es p.1)

all_above_true : {K J : Type 0} (cmp : K → K → Ordering) (k : K) (es : List (K × J)) → AllAbove cmp k es → all_above cmp k es ≡ true
all_above_true cmp k [] a = refl
all_above_true cmp k (e ∷ es) a = and_true (is_lt (cmp k e.0)) (all_above cmp k es) (ap is_lt a.0) (all_above_true cmp k es a.1)

pub rises_true : {K J : Type 0} (cmp : K → K → Ordering) (es : List (K × J)) → Rises cmp es → rises cmp es ≡ true
rises_true cmp [] a = refl
rises_true cmp (e ∷ es) a = and_true (all_above cmp e.0 es) (rises cmp es) (all_above_true cmp e.0 es a.0) (rises_true cmp es a.1)

pub some_none : {V : Type 0} {G : Type 0} (v : V) → Some v ≡ None → G
some_none v e = cc

pub join_none : {V : Type 0} (join : V → V → V) (o : Option V) → option_join join o None ≡ o
join_none join None = refl
join_none join (Some x) = refl

is_Equal : (r : Ordering) → is_eq r ≡ true → r ≡ Equal
is_Equal Less h = absurd (true≢false (sym h))
is_Equal Equal h = refl
is_Equal Greater h = absurd (true≢false (sym h))

module _ {K : Type 0} {cmp : K → K → Ordering} (order : IsExactOrder cmp) where
  pub turned : (x y : K) (r : Ordering) → cmp x y ≡ r → cmp y x ≡ ordering_reverse r
  turned x y r e = order.total.antisymm y x ∙ ap ordering_reverse e

  pub same_key : (x y : K) → is_eq (cmp x y) ≡ true → x ≡ y
  same_key x y h = order.exact x y (is_Equal (cmp x y) h)

  itself : (x : K) → is_eq (cmp x x) ≡ true
  itself x = ap is_eq (tied_itself order.total x)

module _ {K J : Type 0} {cmp : K → K → Ordering} (order : IsExactOrder cmp) where
  -- a key below one that is below all is below all
  pub above_from : (k l : K) (es : List (K × J)) → cmp k l ≡ Less → AllAbove cmp l es → AllAbove cmp k es
  above_from k l [] h a = tt
  above_from k l (e ∷ es) h a = (order.total.trans k l e.0 h a.0, above_from k l es h a.1)

  -- a key below all is not there
  pub get_below : (k : K) (es : List (K × J)) → AllAbove cmp k es → get cmp es k ≡ None
  get_below k [] a = refl
  get_below k (e ∷ es) a = rw a.0 (get_below k es a.1)

  module _ (join : J → J → J) where
    -- at the first entry, by how the new key stands to it and whether the key asked for is the new one
    get_put_first : (k : K) (v : J) (e : K × J) (es : List (K × J)) (q : K) (r : Ordering) (s : Bool) → cmp k e.0 ≡ r → is_eq (cmp q k) ≡ s → Rises cmp (e ∷ es) → get cmp (put cmp join k v es) q ≡ cond s (option_join join (get cmp es q) (Some v)) (get cmp es q) → get cmp (match_ordering r ((k, v) ∷ e ∷ es) ((e.0, join e.1 v) ∷ es) (e ∷ put cmp join k v es)) q ≡ cond s (option_join join (get cmp (e ∷ es) q) (Some v)) (get cmp (e ∷ es) q)
    get_put_first k v e es q Less true h s rises ih =
        let same : q ≡ k = same_key order q k s in
        let absent : get cmp (e ∷ es) q ≡ None = get_below q (e ∷ es) (subst (λ x. AllAbove cmp x (e ∷ es)) (sym same) (h, above_from k e.0 es h rises.0)) in
        rw (s, absent) refl
    get_put_first k v e es q Less false h s rises ih = rw s refl
    get_put_first k v e es q Equal true h s rises ih =
        let there : is_eq (cmp q e.0) ≡ true = ap is_eq (ap (λ x. cmp x e.0) (same_key order q k s) ∙ h) in
        rw there refl
    get_put_first k v e es q Equal false h s rises ih =
        let same : k ≡ e.0 = order.exact k e.0 h in
        let not_there : is_eq (cmp q e.0) ≡ false = subst (λ x. is_eq (cmp q x) ≡ false) same s in
        rw not_there refl
    get_put_first k v e es q Greater true h s rises ih =
        let not_there : is_eq (cmp q e.0) ≡ false = ap is_eq (ap (λ x. cmp x e.0) (same_key order q k s) ∙ h) in
        rw not_there ih
    get_put_first k v e es q Greater false h s rises ih = ap (cond (is_eq (cmp q e.0)) (Some e.1)) ih

    -- a put joins at its key, and changes no other
    pub get-put : (k : K) (v : J) (es : List (K × J)) → Rises cmp es → (q : K) → get cmp (put cmp join k v es) q ≡ cond (is_eq (cmp q k)) (option_join join (get cmp es q) (Some v)) (get cmp es q)
    get-put k v [] rises q = refl
    get-put k v (e ∷ es) rises q = get_put_first k v e es q (cmp k e.0) (is_eq (cmp q k)) refl refl rises (get-put k v es rises.1 q)

    above_put_by : (m k : K) (v : J) (e : K × J) (es : List (K × J)) (r : Ordering) → cmp m k ≡ Less → AllAbove cmp m (e ∷ es) → AllAbove cmp m (put cmp join k v es) → AllAbove cmp m (match_ordering r ((k, v) ∷ e ∷ es) ((e.0, join e.1 v) ∷ es) (e ∷ put cmp join k v es))
    above_put_by m k v e es Less h a ih = (h, a)
    above_put_by m k v e es Equal h a ih = a
    above_put_by m k v e es Greater h a ih = (a.0, ih)

    above_put : (m k : K) (v : J) (es : List (K × J)) → cmp m k ≡ Less → AllAbove cmp m es → AllAbove cmp m (put cmp join k v es)
    above_put m k v [] h a = (h, tt)
    above_put m k v (e ∷ es) h a = above_put_by m k v e es (cmp k e.0) h a (above_put m k v es h a.1)

    rises_put_by : (k : K) (v : J) (e : K × J) (es : List (K × J)) (r : Ordering) → cmp k e.0 ≡ r → Rises cmp (e ∷ es) → Rises cmp (put cmp join k v es) → Rises cmp (match_ordering r ((k, v) ∷ e ∷ es) ((e.0, join e.1 v) ∷ es) (e ∷ put cmp join k v es))
    rises_put_by k v e es Less h rises ih = ((h, above_from k e.0 es h rises.0), rises)
    rises_put_by k v e es Equal h rises ih = rises
    rises_put_by k v e es Greater h rises ih = (above_put e.0 k v es (turned order k e.0 Greater h) rises.0, ih)

    pub Rises-put : (k : K) (v : J) (es : List (K × J)) → Rises cmp es → Rises cmp (put cmp join k v es)
    Rises-put k v [] rises = (tt, tt)
    Rises-put k v (e ∷ es) rises = rises_put_by k v e es (cmp k e.0) refl rises (Rises-put k v es rises.1)

    pub Rises-join : (xs ys : List (K × J)) → Rises cmp xs → Rises cmp (entries_join cmp join xs ys)
    Rises-join xs [] rises = rises
    Rises-join xs (e ∷ es) rises = Rises-put e.0 e.1 (entries_join cmp join xs es) (Rises-join xs es rises)

    get_join_by : (xs es : List (K × J)) (e : K × J) (q : K) (s : Bool) → is_eq (cmp q e.0) ≡ s → AllAbove cmp e.0 es → get cmp (entries_join cmp join xs es) q ≡ option_join join (get cmp xs q) (get cmp es q) → cond s (option_join join (get cmp (entries_join cmp join xs es) q) (Some e.1)) (get cmp (entries_join cmp join xs es) q) ≡ option_join join (get cmp xs q) (cond s (Some e.1) (get cmp es q))
    get_join_by xs es e q true s above ih =
        let absent : get cmp es q ≡ None = get_below q es (subst (λ x. AllAbove cmp x es) (sym (same_key order q e.0 s)) above) in
        let before : get cmp (entries_join cmp join xs es) q ≡ get cmp xs q = ih ∙ ap (option_join join (get cmp xs q)) absent ∙ join_none join (get cmp xs q) in
        ap (λ o. option_join join o (Some e.1)) before
    get_join_by xs es e q false s above ih = ih

    -- the join key by key
    pub get-join : (xs ys : List (K × J)) → Rises cmp xs → Rises cmp ys → (q : K) → get cmp (entries_join cmp join xs ys) q ≡ option_join join (get cmp xs q) (get cmp ys q)
    get-join xs [] rx ry q = sym (join_none join (get cmp xs q))
    get-join xs (e ∷ es) rx ry q =
        get-put e.0 e.1 (entries_join cmp join xs es) (Rises-join xs es rx) q
        ∙ get_join_by xs es e q (is_eq (cmp q e.0)) refl ry.0 (get-join xs es rx ry.1 q)

  -- rising entries are told apart by what their keys have
  pub same_value : (x y : J) → Some x ≡ Some y → x ≡ y
  same_value x y e = cc

  pub get_first : (e : K × J) (es : List (K × J)) → get cmp (e ∷ es) e.0 ≡ Some e.1
  get_first e es = rw (itself order e.0) refl

  tail_by : (e : K × J) (xs ys : List (K × J)) (f : K × J) (q : K) (s : Bool) → e.0 ≡ f.0 → is_eq (cmp q e.0) ≡ s → AllAbove cmp e.0 xs → AllAbove cmp f.0 ys → cond s (Some e.1) (get cmp xs q) ≡ cond s (Some f.1) (get cmp ys q) → get cmp xs q ≡ get cmp ys q
  tail_by e xs ys f q true same s a b h =
      let here : q ≡ e.0 = same_key order q e.0 s in
      get_below q xs (subst (λ x. AllAbove cmp x xs) (sym here) a) ∙ sym (get_below q ys (subst (λ x. AllAbove cmp x ys) (sym (here ∙ same)) b))
  tail_by e xs ys f q false same s a b h = h

  ext_by : (e f : K × J) (xs ys : List (K × J)) (r : Ordering) → cmp e.0 f.0 ≡ r → Rises cmp (e ∷ xs) → Rises cmp (f ∷ ys) → ((q : K) → get cmp (e ∷ xs) q ≡ get cmp (f ∷ ys) q) → (((q : K) → get cmp xs q ≡ get cmp ys q) → xs ≡ ys) → e ∷ xs ≡ f ∷ ys
  ext_by e f xs ys Less h a b same tails = some_none e.1 (sym (get_first e xs) ∙ same e.0 ∙ get_below e.0 (f ∷ ys) (h, above_from e.0 f.0 ys h b.0))
  ext_by e f xs ys Equal h a b same tails =
      let keys : e.0 ≡ f.0 = order.exact e.0 f.0 h in
      let values : e.1 ≡ f.1 = same_value e.1 f.1 (sym (get_first e xs) ∙ same e.0 ∙ ap (get cmp (f ∷ ys)) keys ∙ get_first f ys) in
      let rest : xs ≡ ys = tails (λ q. tail_by e xs ys f q (is_eq (cmp q e.0)) keys refl a.0 b.0 (same q ∙ ap (λ k. cond (is_eq (cmp q k)) (Some f.1) (get cmp ys q)) (sym keys))) in
      λ i. (keys i, values i) ∷ rest i
  ext_by e f xs ys Greater h a b same tails =
      let back : cmp f.0 e.0 ≡ Less = turned order e.0 f.0 Greater h in
      some_none f.1 (sym (get_first f ys) ∙ sym (same f.0) ∙ get_below f.0 (e ∷ xs) (back, above_from f.0 e.0 xs back a.0))

  pub same_entries : (xs ys : List (K × J)) → Rises cmp xs → Rises cmp ys → ((q : K) → get cmp xs q ≡ get cmp ys q) → xs ≡ ys
  same_entries [] [] a b same = refl
  same_entries [] (f ∷ ys) a b same = some_none f.1 (sym (get_first f ys) ∙ sym (same f.0))
  same_entries (e ∷ xs) [] a b same = some_none e.1 (sym (get_first e xs) ∙ same e.0)
  same_entries (e ∷ xs) (f ∷ ys) a b same = ext_by e f xs ys (cmp e.0 f.0) refl a b same (same_entries xs ys a.1 b.1)
