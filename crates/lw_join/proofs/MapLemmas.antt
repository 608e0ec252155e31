-- Finite maps key by key: what a join has at a key, its laws, and what it tells of a set.
use Rattle.std.proofs.Common.{◌≡◌, Bool, true, false, Ordering, cond, sym, refl, ap, ◌∙◌, subst, List, [], ◌∷◌, ◌++◌, Option, Some, None}
use Rattle.std.specs.Prelude.{◌||◌, is_some}
use Rattle.std.specs.List.{list_any}
use Rattle.std.specs.Ordering.{eq_by_cmp}
use Rattle.std.specs.FinMap.{FinMap, empty, get, keys, get-empty, get-insert, contains_key-keys, same_map}
use Rattle.std.proofs.lemmas.Cmp.{eq_by_cmp_equiv}
use Rattle.std.proofs.lemmas.Map.Views.{tells_apart}
use Rattle.lw_stamp.specs.Order.{IsExactOrder}
use Rattle.lw_join.specs.inner.Facets.{Either, IsFacet, TellsSome, OptionTells, MapTells}
use Rattle.lw_join.specs.Join.{IsJoin}
use Rattle.lw_join.specs.Maps.{map_below, with_option, from_keys, map_join, one_key}
use Rattle.lw_join.specs.OptionLaws.{option_laws}
use Rattle.lw_join.specs.Options.{option_below, option_join}
use Rattle.lw_join.proofs.FacetLemmas.{option_facet}

abbrev option_else : {V : Type 0} → Option V → Option V → Option V
option_else None o = o
option_else (Some v) o = Some v

any_append : {K : Type 0} (p : K → Bool) (xs ys : List K) → list_any p (xs ++ ys) ≡ (list_any p xs || list_any p ys)
any_append p [] ys = refl
any_append p (x ∷ xs) ys = go (p x) (any_append p xs ys)
  where
    go : (b : Bool) → list_any p (xs ++ ys) ≡ (list_any p xs || list_any p ys) → (b || list_any p (xs ++ ys)) ≡ ((b || list_any p xs) || list_any p ys)
    go true ih = refl
    go false ih = ih

module _ {K V : Type 0} {R : K → K → Ordering} (order : IsExactOrder R) where
  get-with_option : (m : FinMap R V) (k : K) (o : Option V) (q : K) → get (with_option m k o) q ≡ cond (eq_by_cmp R q k) (option_else o (get m q)) (get m q)
  get-with_option m k None q = go (eq_by_cmp R q k)
    where
      go : (b : Bool) → get m q ≡ cond b (get m q) (get m q)
      go true = refl
      go false = refl
  get-with_option m k (Some v) q = get-insert order.total m k v q

  get-from_keys : (ks : List K) (f : K → Option V) (q : K) → get (from_keys {R = R} ks f) q ≡ cond (list_any (eq_by_cmp R q) ks) (f q) None
  get-from_keys [] f q = get-empty R q
  get-from_keys (k ∷ ks) f q = get-with_option (from_keys ks f) k (f k) q ∙ go (eq_by_cmp R q k) refl (list_any (eq_by_cmp R q) ks) (get-from_keys ks f q)
    where
      found : (o : Option V) (rest : Option V) (b : Bool) → rest ≡ cond b o None → option_else o rest ≡ o
      found None rest true e = e
      found None rest false e = e
      found (Some v) rest b e = refl

      go : (b : Bool) → eq_by_cmp R q k ≡ b → (c : Bool) → get (from_keys {R = R} ks f) q ≡ cond c (f q) None → cond b (option_else (f k) (get (from_keys {R = R} ks f) q)) (get (from_keys {R = R} ks f) q) ≡ cond (b || c) (f q) None
      go true e c h = ap (λ x. option_else (f x) (get (from_keys {R = R} ks f) q)) (sym (tells_apart order.exact q k e)) ∙ found (f q) _ c h
      go false e c h = h

  pub get-map_join : (join : V → V → V) (m n : FinMap R V) (q : K) → get (map_join join m n) q ≡ option_join join (get m q) (get n q)
  unfolding map_join
  get-map_join join m n q =
      get-from_keys (keys m ++ keys n) (λ k. option_join join (get m k) (get n k)) q
      ∙ ap (λ b. cond b (option_join join (get m q) (get n q)) None) (any_append (eq_by_cmp R q) (keys m) (keys n) ∙ (λ i. sym (contains_key-keys m q) i || sym (contains_key-keys n q) i))
      ∙ go (get m q) (get n q)
    where
      go : (a b : Option V) → cond (is_some a || is_some b) (option_join join a b) None ≡ option_join join a b
      go None None = refl
      go None (Some y) = refl
      go (Some x) None = refl
      go (Some x) (Some y) = refl

  -- maps with the same value at each key are one
  pub maps_alike : (m n : FinMap R V) → ((q : K) → get m q ≡ get n q) → m ≡ n
  maps_alike = same_map order.total order.exact

  pub get-one_key : (k : K) (v : V) (q : K) → get (one_key {R = R} k v) q ≡ cond (eq_by_cmp R q k) (Some v) None
  get-one_key k v q = get-insert order.total empty k v q ∙ ap (cond (eq_by_cmp R q k) (Some v)) (get-empty R q)

  pub get-own_key : (k : K) (v : V) → get (one_key {R = R} k v) k ≡ Some v
  get-own_key k v = get-one_key k v k ∙ ap (λ b. cond b (Some v) None) ((eq_by_cmp_equiv order.total).refl k)

  -- the joins of maps of one key
  pub join-one_key : (join : V → V → V) (k : K) (v w : V) → map_join join (one_key {R = R} k v) (one_key k w) ≡ one_key k (join v w)
  join-one_key join k v w = maps_alike _ _ (λ q.
      get-map_join join (one_key k v) (one_key k w) q
      ∙ (λ i. option_join join (get-one_key k v q i) (get-one_key k w q i))
      ∙ go (eq_by_cmp R q k) ∙ sym (get-one_key k (join v w) q))
    where
      go : (b : Bool) → option_join join (cond b (Some v) None) (cond b (Some w) None) ≡ cond b (Some (join v w)) None
      go true = refl
      go false = refl

  -- ---- the laws
  module _ {below : V → V → Type 0} {join : V → V → V} (laws : IsJoin below join) where
    pub map_laws : IsJoin (map_below {R = R} below) (map_join join)
    map_laws =
        let each = option_laws laws in
        record {
          reflexive = λ m k. each.reflexive (get m k);
          antisymmetric = λ m n h k. maps_alike m n (λ q. each.antisymmetric (get m q) (get n q) (h q) (k q));
          transitive = λ a b c h k q. each.transitive (get a q) (get b q) (get c q) (h q) (k q);
          above_left = λ a b q. subst (option_below below (get a q)) (sym (get-map_join join a b q)) (each.above_left (get a q) (get b q));
          above_right = λ a b q. subst (option_below below (get b q)) (sym (get-map_join join a b q)) (each.above_right (get a q) (get b q));
          least = λ a b c h k q. subst (λ x. option_below below x (get c q)) (sym (get-map_join join a b q)) (each.least (get a q) (get b q) (get c q) (h q) (k q));
        }

    -- the empty map is below all
    pub empty_below : (m : FinMap R V) → map_below below empty m
    empty_below m k = subst (λ x. option_below below x (get m k)) (sym (get-empty R k)) tt

-- ---- what a map tells of a set
pub map_facet : {K T V : Type 0} {R : K → K → Ordering} → IsExactOrder R → {join : V → V → V} {Tells : (T → Type 0) → V → Type 0} → IsFacet join Tells → TellsSome Tells → IsFacet (map_join {R = R} join) (MapTells Tells)
map_facet order {join} {Tells} r w =
    let each = option_facet r w in
    record {
      union = λ P Q m n g h k. subst (OptionTells Tells (Either (λ t. P (k, t)) (λ t. Q (k, t)))) (sym (get-map_join order join m n k)) (each.union (λ t. P (k, t)) (λ t. Q (k, t)) (get m k) (get n k) (g k) (h k));
      same = λ P Q m h g k. each.same (λ t. P (k, t)) (λ t. Q (k, t)) (get m k) (λ t. h (k, t)) (g k);
      one = λ P m n g h. maps_alike order m n (λ k. each.one (λ t. P (k, t)) (get m k) (get n k) (g k) (h k));
    }

module _ {K T V : Type 0} (R : K → K → Ordering) (Tells : (T → Type 0) → V → Type 0) (P : K × T → Type 0) where
  -- the empty map tells of the empty set
  pub map_empty : ((k : K) (t : T) → ¬ P (k, t)) → MapTells {R = R} Tells P empty
  map_empty none q = subst (OptionTells Tells (λ t. P (q, t))) (sym (get-empty R q)) (λ t. none q t)

  -- a map of one key tells of a set whose members have that key
  pub map_single : IsExactOrder R → (k : K) (v : V) → ((q : K) (t : T) → P (q, t) → q ≡ k) → Tells (λ t. P (k, t)) v → MapTells {R = R} Tells P (one_key k v)
  map_single order k v only told q = subst (OptionTells Tells (λ t. P (q, t))) (sym (get-one_key order k v q)) (go q (eq_by_cmp R q k) refl)
    where
      go : (q : K) (b : Bool) → eq_by_cmp R q k ≡ b → OptionTells Tells (λ t. P (q, t)) (cond b (Some v) None)
      go q true e = subst (λ u. Tells (λ t. P (u, t)) v) (sym (tells_apart order.exact q k e)) told
      go q false e = λ t p. absurd (let h : eq_by_cmp R q k ≡ true = subst (λ u. eq_by_cmp R q u ≡ true) (only q t p) ((eq_by_cmp_equiv order.total).refl q) in let g : false ≡ true = sym e ∙ h in cc)
