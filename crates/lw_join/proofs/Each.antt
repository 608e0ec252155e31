-- What holds of each entry: of every key and its value, and behind an edit or a join.
use Rattle.std.proofs.Common.{◌≡◌, List, [], ◌∷◌, Bool, true, false, cond, Some, refl, sym, ◌∙◌, subst}
use Rattle.std.specs.List.{AllByRecursion}
use Rattle.std.specs.declared.cmp.Ordering.{Ordering}
use Rattle.std.specs.declared.cmp.Ordering.TheVariants.{Less, Equal, Greater}
use Rattle.std.specs.Ordering.{is_eq, match_ordering, max_by_ordering}
use Rattle.std.specs.declared.cmp.Ord as ord
use Rattle.std.specs.declared.cmp.PartialEq as partial_eq
use Rattle.std.specs.declared.cmp.PartialOrd as partial_ord
use Rattle.lw_stamp.specs.Order.{IsExactOrder}
use Rattle.lw_join.specs.Greater.{greater}
use Rattle.lw_join.specs.Entries.{AllAbove, Rises, get, put, entries_join}
use Rattle.lw_join.specs.EntriesLaws.{some_none, same_key, get_below, get_first, same_value}
use Rattle.lw_join.specs.Last.{last_join}
use Rattle.lw_join.specs.Lww.{write_cmp}
use Rattle.lw_join.specs.Parts.{entries_of, parts_join}
use Rattle.lw_join.specs.PartsLaws.{entries_joined}
use Rattle.lw_join.specs.declared.last.Last.{Last}
use Rattle.lw_join.specs.declared.parts.Parts.{Parts}

module _ {K J : Type 0} {cmp : K → K → Ordering} (order : IsExactOrder cmp) (Q : K × J → Type 0) where
  each_get_by : (e : K × J) (es : List (K × J)) (k : K) (v : J) (s : Bool) → is_eq (cmp k e.0) ≡ s → Q e → (get cmp es k ≡ Some v → Q (k, v)) → cond s (Some e.1) (get cmp es k) ≡ Some v → Q (k, v)
  each_get_by e es k v true same here rest found =
      let key : e.0 ≡ k = sym (same_key order k e.0 same) in
      let value : e.1 ≡ v = same_value order e.1 v found in
      subst Q (λ i. (key i, value i)) here
  each_get_by e es k v false same here rest found = rest found

  -- what holds of each entry holds of a key and its value
  pub each_get : (es : List (K × J)) (k : K) (v : J) → AllByRecursion Q es → get cmp es k ≡ Some v → Q (k, v)
  each_get [] k v all found = some_none v (sym found)
  each_get (e ∷ es) k v all found = each_get_by e es k v (is_eq (cmp k e.0)) refl all.0 (each_get es k v all.1) found

  behind_by : (e : K × J) (es : List (K × J)) (k : K) (v : J) (s : Bool) → is_eq (cmp k e.0) ≡ s → AllAbove cmp e.0 es → get cmp es k ≡ Some v → cond s (Some e.1) (get cmp es k) ≡ Some v
  behind_by e es k v true same above found = some_none v (sym found ∙ get_below order k es (subst (λ x. AllAbove cmp x es) (sym (same_key order k e.0 same)) above))
  behind_by e es k v false same above found = found

  -- what holds of every key and its value holds of each entry
  pub each_from_get : (es : List (K × J)) → Rises cmp es → ((k : K) (v : J) → get cmp es k ≡ Some v → Q (k, v)) → AllByRecursion Q es
  each_from_get [] rises all = tt
  each_from_get (e ∷ es) rises all =
      (all e.0 e.1 (get_first order e es), each_from_get es rises.1 (λ k v found. all k v (behind_by e es k v (is_eq (cmp k e.0)) refl rises.0 found)))

  module _ (join : J → J → J) (keeps : (k : K) (x y : J) → Q (k, x) → Q (k, y) → Q (k, join x y)) where
    each_put_by : (k : K) (v : J) (e : K × J) (es : List (K × J)) (r : Ordering) → cmp k e.0 ≡ r → Q (k, v) → AllByRecursion Q (e ∷ es) → AllByRecursion Q (put cmp join k v es) → AllByRecursion Q (match_ordering r ((k, v) ∷ e ∷ es) ((e.0, join e.1 v) ∷ es) (e ∷ put cmp join k v es))
    each_put_by k v e es Less h new all ih = (new, all)
    each_put_by k v e es Equal h new all ih = (keeps e.0 e.1 v all.0 (subst (λ x. Q (x, v)) (order.exact k e.0 h) new), all.1)
    each_put_by k v e es Greater h new all ih = (all.0, ih)

    -- a put keeps what each join of values keeps
    pub each_put : (k : K) (v : J) (es : List (K × J)) → Q (k, v) → AllByRecursion Q es → AllByRecursion Q (put cmp join k v es)
    each_put k v [] new all = (new, tt)
    each_put k v (e ∷ es) new all = each_put_by k v e es (cmp k e.0) refl new all (each_put k v es new all.1)

    -- so does a join
    pub each_join : (xs ys : List (K × J)) → AllByRecursion Q xs → AllByRecursion Q ys → AllByRecursion Q (entries_join cmp join xs ys)
    each_join xs [] all new = all
    each_join xs (e ∷ ys) all new = each_put e.0 e.1 (entries_join cmp join xs ys) new.0 (each_join xs ys all new.1)

module _ {K J : Type 0} {o : ord.Ghosts K} {e : partial_eq.Ghosts K} {p : partial_ord.Ghosts K} (order : IsExactOrder o.cmp) (Q : K × J → Type 0) (join : J → J → J) (keeps : (k : K) (x y : J) → Q (k, x) → Q (k, y) → Q (k, join x y)) where
  -- a join of maps keeps what each join of values keeps
  pub each_parts_join : (x y : Parts K J o e p) → AllByRecursion Q (entries_of x) → AllByRecursion Q (entries_of y) → AllByRecursion Q (entries_of (parts_join join x y))
  each_parts_join x y all new = subst (AllByRecursion Q) (sym (entries_joined order join x y)) (each_join order Q join keeps x.entries y.entries all new)

greater_keeps_by : {V : Type 0} (P : V → Type 0) (r : Ordering) (x y : V) → P x → P y → P (max_by_ordering r x y)
greater_keeps_by P Less x y a b = b
greater_keeps_by P Equal x y a b = b
greater_keeps_by P Greater x y a b = a

-- the greater of two is one of the two
pub greater_keeps : {V : Type 0} (cmp : V → V → Ordering) (P : V → Type 0) (x y : V) → P x → P y → P (greater cmp x y)
greater_keeps cmp P x y a b = greater_keeps_by P (cmp x y) x y a b

pub last_keeps : {V : Type 0} (cmp : V → V → Ordering) (P : Last V → Type 0) (x y : Last V) → P x → P y → P (last_join cmp x y)
last_keeps cmp P x y a b = greater_keeps (write_cmp cmp) (λ w. P (record { write = w })) x.write y.write a b
