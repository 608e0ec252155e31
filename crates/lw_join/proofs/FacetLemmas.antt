-- Each kind of joined value tells of a set: one lemma a kind, to be put together as the types are.
use Rattle.std.proofs.Common.{◌≡◌, ◌↔◌, Bool, true, false, Option, Some, None, refl, sym, ap, ◌∙◌, subst, inl, inr, [], ◌∷◌, cond}
use Rattle.std.specs.declared.cmp.Ordering.{Ordering}
use Rattle.std.specs.declared.cmp.Ordering.TheVariants.{Less, Equal, Greater}
use Rattle.std.specs.Ordering.{is_eq, is_gt, max_by_ordering}
use Rattle.std.specs.declared.cmp.Ord as ord
use Rattle.std.specs.declared.cmp.PartialEq as partial_eq
use Rattle.std.specs.declared.cmp.PartialOrd as partial_ord
use Rattle.std.specs.Cmp.{tied_itself}
use mathlib.Core.Bool.{true≢false}
use Rattle.lw_stamp.specs.Order.{IsExactOrder, AtMost, IsGreatest}
use Rattle.lw_stamp.proofs.StampLemmas.{stamp_order}
use Rattle.lw_join.specs.Greater.{greater}
use Rattle.lw_join.specs.GreaterLaws.{at_most_refl, at_most_trans, at_most_antisymm}
use Rattle.lw_join.specs.Options.{option_join}
use Rattle.lw_join.specs.Keyed.{keyed_join}
use Rattle.lw_join.specs.Once.{once_join}
use Rattle.lw_join.specs.Last.{last_join}
use Rattle.lw_join.specs.Lww.{lww_join, write_cmp}
use Rattle.lw_join.specs.LwwLaws.{write_order}
use Rattle.lw_join.specs.Lex.{lex_join, lex_pair, lex_of}
use Rattle.lw_join.specs.OrGone.{gone_join}
use Rattle.lw_join.specs.Entries.{get}
use Rattle.lw_join.specs.EntriesLaws.{turned, same_key}
use Rattle.lw_join.specs.Parts.{entries_of, parts_join, value_at}
use Rattle.lw_join.specs.PartsLaws.{value_at-join, same_values}
use Rattle.lw_join.specs.declared.once.Once.{Once}
use Rattle.lw_join.specs.declared.last.Last.{Last}
use Rattle.lw_join.specs.declared.lww.Lww.{Lww}
use Rattle.lw_join.specs.declared.or_gone.OrGone.{OrGone}
use Rattle.lw_join.specs.declared.or_gone.OrGone.TheVariants.{Here, Gone}
use Rattle.lw_join.specs.declared.parts.Parts.{Parts}
use Rattle.lw_join.specs.inner.Facets.{Either, IsFacet, TellsSome, Through, OptionTells, KeyedTells, OnceTells, LwwTells, LastTells, LexTells, GoneTells, PartsTells}

-- nothing in the left, nothing in the right
left_empty : {T : Type 0} (P Q : T → Type 0) → ((t : T) → ¬ P t) → (t : T) → Q t ↔ Either P Q t
left_empty P Q none t = (λ q. inr q, back)
  where
    back : Either P Q t → Q t
    back (inl p) = absurd (none t p)
    back (inr q) = q

right_empty : {T : Type 0} (P Q : T → Type 0) → ((t : T) → ¬ Q t) → (t : T) → P t ↔ Either P Q t
right_empty P Q none t = (λ p. inl p, back)
  where
    back : Either P Q t → P t
    back (inl p) = p
    back (inr q) = absurd (none t q)

-- ---- the greatest
module _ {A : Type 0} {cmp : A → A → Ordering} (order : IsExactOrder cmp) where
  -- the three ways in which two values stand
  by_cmp : {G : Type 0} (x y : A) → (cmp x y ≡ Less → G) → (x ≡ y → cmp x y ≡ Equal → G) → (cmp x y ≡ Greater → G) → G
  by_cmp {G} x y less equal greater = go (cmp x y) refl
    where
      go : (r : Ordering) → cmp x y ≡ r → G
      go Less e = less e
      go Equal e = equal (order.exact x y e) e
      go Greater e = greater e

  greatest_union : (P Q : A → Type 0) (a b : A) → IsGreatest cmp P a → IsGreatest cmp Q b → IsGreatest cmp (Either P Q) (greater cmp a b)
  greatest_union P Q a b g h = by_cmp a b (λ e. rw e (right (ap is_gt e))) (λ p e. rw e (right (ap is_gt e))) (λ e. rw e (left (ap is_gt (turned order a b Greater e))))
    where
      right : AtMost cmp a b → IsGreatest cmp (Either P Q) b
      right below = record { member = inr h.member; above = λ y. elim [ inl p ↦ at_most_trans order y a b (g.above y p) below | inr q ↦ h.above y q ] }

      left : AtMost cmp b a → IsGreatest cmp (Either P Q) a
      left below = record { member = inl g.member; above = λ y. elim [ inl p ↦ g.above y p | inr q ↦ at_most_trans order y b a (h.above y q) below ] }

  pub greatest_same : (P Q : A → Type 0) (a : A) → ((t : A) → P t ↔ Q t) → IsGreatest cmp P a → IsGreatest cmp Q a
  greatest_same P Q a h g = record { member = (h a).0 g.member; above = λ y q. g.above y ((h y).1 q) }

  pub greatest_one : (P : A → Type 0) (a b : A) → IsGreatest cmp P a → IsGreatest cmp P b → a ≡ b
  greatest_one P a b g h = at_most_antisymm order a b (h.above a g.member) (g.above b h.member)

  pub greatest_facet : IsFacet (greater cmp) (IsGreatest cmp)
  greatest_facet = record { union = greatest_union; same = greatest_same; one = greatest_one }

  -- the greatest of a set of one
  pub greatest_single : (P : A → Type 0) (x : A) → P x → ((y : A) → P y → y ≡ x) → IsGreatest cmp P x
  greatest_single P x member only = record { member = member; above = λ y q. subst (λ v. AtMost cmp y v) (only y q) (at_most_refl order y) }

pub greatest_some : {A : Type 0} (cmp : A → A → Ordering) → TellsSome (IsGreatest cmp)
greatest_some cmp = record { some = λ P a g. (a, g.member) }

-- ---- a part of the set
pub through_facet : {T U A : Type 0} {join : A → A → A} {R : (U → Type 0) → A → Type 0} (f : U → T) → IsFacet join R → IsFacet join (Through f R)
through_facet f r = record {
  union = λ P Q a b. r.union (λ u. P (f u)) (λ u. Q (f u)) a b;
  same = λ P Q a h. r.same (λ u. P (f u)) (λ u. Q (f u)) a (λ u. h (f u));
  one = λ P a b. r.one (λ u. P (f u)) a b;
}

-- ---- a type whose values are those of another
pub facet_along : {T A B : Type 0} (to : B → A) (from : A → B) → ((a : A) → to (from a) ≡ a) → ((b : B) → from (to b) ≡ b) → {join : A → A → A} {R : (T → Type 0) → A → Type 0} → IsFacet join R → IsFacet (λ x y. from (join (to x) (to y))) (λ P x. R P (to x))
facet_along to from to-from from-to {join} {R} r = record {
  union = λ P Q a b g h. subst (R (Either P Q)) (sym (to-from (join (to a) (to b)))) (r.union P Q (to a) (to b) g h);
  same = λ P Q a h g. r.same P Q (to a) h g;
  one = λ P a b g h. sym (from-to a) ∙ ap from (r.one P (to a) (to b) g h) ∙ from-to b;
}

-- ---- nothing, where the set is empty
module _ {T A : Type 0} {join : A → A → A} {R : (T → Type 0) → A → Type 0} (r : IsFacet join R) where
  option_union : (P Q : T → Type 0) (a b : Option A) → OptionTells R P a → OptionTells R Q b → OptionTells R (Either P Q) (option_join join a b)
  option_union P Q None None g h = λ t. elim [ inl p ↦ g t p | inr q ↦ h t q ]
  option_union P Q None (Some b) g h = r.same Q (Either P Q) b (left_empty P Q g) h
  option_union P Q (Some a) None g h = r.same P (Either P Q) a (right_empty P Q h) g
  option_union P Q (Some a) (Some b) g h = r.union P Q a b g h

  option_same : (P Q : T → Type 0) (a : Option A) → ((t : T) → P t ↔ Q t) → OptionTells R P a → OptionTells R Q a
  option_same P Q None h g = λ t q. g t ((h t).1 q)
  option_same P Q (Some a) h g = r.same P Q a h g

  option_one : TellsSome R → (P : T → Type 0) (a b : Option A) → OptionTells R P a → OptionTells R P b → a ≡ b
  option_one w P None None g h = refl
  option_one w P None (Some b) g h = absurd (let x = w.some P b h in g x.0 x.1)
  option_one w P (Some a) None g h = absurd (let x = w.some P a g in h x.0 x.1)
  option_one w P (Some a) (Some b) g h = ap Some (r.one P a b g h)

  pub option_facet : TellsSome R → IsFacet (option_join join) (OptionTells R)
  option_facet w = record { union = option_union; same = option_same; one = option_one w }

pub once_facet : {V : Type 0} {cmp : V → V → Ordering} → IsExactOrder cmp → IsFacet (once_join cmp) (OnceTells cmp)
once_facet {V} {cmp} order = facet_along (λ (x : Once V). x.value) (λ o. record { value = o }) (λ s. refl) (λ t. refl) (option_facet (greatest_facet order) (greatest_some cmp))

pub lww_facet : {V : Type 0} {cmp : V → V → Ordering} → IsExactOrder cmp → IsFacet (lww_join cmp) (LwwTells cmp)
lww_facet {V} {cmp} order = facet_along (λ (x : Lww V). x.write) (λ o. record { write = o }) (λ s. refl) (λ t. refl) (option_facet (greatest_facet (write_order order)) (greatest_some (write_cmp cmp)))

pub last_facet : {V : Type 0} {cmp : V → V → Ordering} → IsExactOrder cmp → IsFacet (last_join cmp) (LastTells cmp)
last_facet {V} {cmp} order = facet_along (λ (x : Last V). x.write) (λ w. record { write = w }) (λ s. refl) (λ t. refl) (greatest_facet (write_order order))

pub last_some : {V : Type 0} (cmp : V → V → Ordering) → TellsSome (LastTells cmp)
last_some cmp = record { some = λ P x g. (x.write, g.member) }

-- ---- gone, where t is in the set
module _ {T J : Type 0} {join : J → J → J} {R : (T → Type 0) → J → Type 0} (t : T) (r : IsFacet join R) where
  gone_union : (P Q : T → Type 0) (a b : OrGone J) → GoneTells t R P a → GoneTells t R Q b → GoneTells t R (Either P Q) (gone_join join a b)
  gone_union P Q a Gone g h = inr h
  gone_union P Q Gone (Here b) g h = inl g
  gone_union P Q (Here a) (Here b) g h = (elim [ inl p ↦ g.0 p | inr q ↦ h.0 q ], r.union P Q a b g.1 h.1)

  gone_same : (P Q : T → Type 0) (a : OrGone J) → ((u : T) → P u ↔ Q u) → GoneTells t R P a → GoneTells t R Q a
  gone_same P Q Gone h g = (h t).0 g
  gone_same P Q (Here a) h g = (λ q. g.0 ((h t).1 q), r.same P Q a h g.1)

  gone_one : (P : T → Type 0) (a b : OrGone J) → GoneTells t R P a → GoneTells t R P b → a ≡ b
  gone_one P Gone Gone g h = refl
  gone_one P Gone (Here b) g h = absurd (h.0 g)
  gone_one P (Here a) Gone g h = absurd (g.0 h)
  gone_one P (Here a) (Here b) g h = ap Here (r.one P a b g.1 h.1)

  pub gone_facet : IsFacet (gone_join join) (GoneTells t R)
  gone_facet = record { union = gone_union; same = gone_same; one = gone_one }

-- ---- the greatest key, and what is told of the set at that key
module _ {K T A : Type 0} {cmp : K → K → Ordering} {join : A → A → A} {R : (T → Type 0) → A → Type 0} (order : IsExactOrder cmp) (r : IsFacet join R) where
  -- a set whose keys are all below k has nothing at k
  nothing_at : (P : K × T → Type 0) (k u : K) → IsGreatest cmp (λ s. (t : T) × P (s, t)) u → cmp k u ≡ Greater → (t : T) → ¬ P (k, t)
  nothing_at P k u g e t p = true≢false (sym (ap is_gt e) ∙ g.above k (t, p))

  key_split : (P Q : K × T → Type 0) (k : K) → Either (λ s. (t : T) × P (s, t)) (λ s. (t : T) × Q (s, t)) k ↔ ((t : T) × Either P Q (k, t))
  key_split P Q k = (elim [ inl p ↦ (p.0, inl p.1) | inr q ↦ (q.0, inr q.1) ], λ x. back x.0 x.1)
    where
      back : (t : T) → Either P Q (k, t) → Either (λ s. (t : T) × P (s, t)) (λ s. (t : T) × Q (s, t)) k
      back t (inl p) = inl (t, p)
      back t (inr q) = inr (t, q)

  keyed_union : (P Q : K × T → Type 0) (x y : K × A) → KeyedTells cmp R P x → KeyedTells cmp R Q y → KeyedTells cmp R (Either P Q) (keyed_join cmp join x y)
  keyed_union P Q x y g h = by_cmp order x.0 y.0
      (λ e. rw e (record {
        key = subst (IsGreatest cmp _) (ap (λ o. max_by_ordering o x.0 y.0) e) keys;
        told = r.same _ _ y.1 (left_empty _ _ (nothing_at P y.0 x.0 g.key (turned order x.0 y.0 Less e))) h.told;
      }))
      (λ p e. rw e (record {
        key = subst (IsGreatest cmp _) (ap (λ o. max_by_ordering o x.0 y.0) e ∙ sym p) keys;
        told = r.union _ _ x.1 y.1 g.told (subst (λ s. R (λ t. Q (s, t)) y.1) (sym p) h.told);
      }))
      (λ e. rw e (record {
        key = subst (IsGreatest cmp _) (ap (λ o. max_by_ordering o x.0 y.0) e) keys;
        told = r.same _ _ x.1 (right_empty _ _ (nothing_at Q x.0 y.0 h.key e)) g.told;
      }))
    where
      keys : IsGreatest cmp (λ s. (t : T) × Either P Q (s, t)) (greater cmp x.0 y.0)
      keys = greatest_same order _ _ _ (key_split P Q) ((greatest_facet order).union _ _ x.0 y.0 g.key h.key)

  keyed_same : (P Q : K × T → Type 0) (x : K × A) → ((t : K × T) → P t ↔ Q t) → KeyedTells cmp R P x → KeyedTells cmp R Q x
  keyed_same P Q x h g = record {
    key = greatest_same order _ _ _ (λ s. (λ p. (p.0, (h (s, p.0)).0 p.1), λ q. (q.0, (h (s, q.0)).1 q.1))) g.key;
    told = r.same _ _ x.1 (λ t. h (x.0, t)) g.told;
  }

  keyed_one : (P : K × T → Type 0) (x y : K × A) → KeyedTells cmp R P x → KeyedTells cmp R P y → x ≡ y
  keyed_one P x y g h =
      let e : x.0 ≡ y.0 = greatest_one order _ x.0 y.0 g.key h.key in
      let f : x.1 ≡ y.1 = r.one _ x.1 y.1 g.told (subst (λ s. R (λ t. P (s, t)) y.1) (sym e) h.told) in
      λ i. (e i, f i)

  pub keyed_facet : IsFacet (keyed_join cmp join) (KeyedTells cmp R)
  keyed_facet = record { union = keyed_union; same = keyed_same; one = keyed_one }

-- what is told of a set whose members have one key
pub keyed_single : {K T A : Type 0} {cmp : K → K → Ordering} → IsExactOrder cmp → (R : (T → Type 0) → A → Type 0) (P : K × T → Type 0) (k : K) (t : T) (a : A) → P (k, t) → ((u : K) (s : T) → P (u, s) → u ≡ k) → R (λ s. P (k, s)) a → KeyedTells cmp R P (k, a)
keyed_single order R P k t a p only told = record { key = greatest_single order _ k (t, p) (λ u q. only u q.0 q.1); told = told }

pub lex_facet : {T J : Type 0} {join : J → J → J} {R : (T → Type 0) → J → Type 0} → IsFacet join R → IsFacet (lex_join join) (LexTells R)
lex_facet r = facet_along lex_pair lex_of (λ s. refl) (λ t. refl) (keyed_facet stamp_order r)

pub lex_some : {T J : Type 0} (R : (T → Type 0) → J → Type 0) → TellsSome (LexTells R)
lex_some R = record { some = λ P x g. ((x.stamp, g.key.member.0), g.key.member.1) }

-- ---- key by key
pub parts_facet : {K T J : Type 0} {o : ord.Ghosts K} {e : partial_eq.Ghosts K} {p : partial_ord.Ghosts K} → IsExactOrder o.cmp → {join : J → J → J} {R : (T → Type 0) → J → Type 0} → IsFacet join R → TellsSome R → IsFacet (parts_join {o = o} {e = e} {p = p} join) (PartsTells R)
parts_facet order {join} {R} r w =
    let each = option_facet r w in
    record {
      union = λ P Q x y g h k. subst (OptionTells R (Either (λ t. P (k, t)) (λ t. Q (k, t)))) (sym (value_at-join order join x y k)) (each.union (λ t. P (k, t)) (λ t. Q (k, t)) (value_at x k) (value_at y k) (g k) (h k));
      same = λ P Q x h g k. each.same (λ t. P (k, t)) (λ t. Q (k, t)) (value_at x k) (λ t. h (k, t)) (g k);
      one = λ P x y g h. same_values order x y (λ k. each.one (λ t. P (k, t)) (value_at x k) (value_at y k) (g k) (h k));
    }

module _ {K T J : Type 0} {o : ord.Ghosts K} {e : partial_eq.Ghosts K} {p : partial_ord.Ghosts K} (R : (T → Type 0) → J → Type 0) (P : K × T → Type 0) (x : Parts K J o e p) where
  -- the empty map tells of the empty set
  pub parts_empty : entries_of x ≡ [] → ((k : K) (t : T) → ¬ P (k, t)) → PartsTells R P x
  parts_empty empty none = λ q. subst (λ es. OptionTells R (λ t. P (q, t)) (get o.cmp es q)) (sym empty) (λ t. none q t)

  -- a map of one entry tells of a set whose members have its key
  pub parts_single : IsExactOrder o.cmp → (k : K) (a : J) → entries_of x ≡ (k, a) ∷ [] → ((q : K) (t : T) → P (q, t) → q ≡ k) → R (λ t. P (k, t)) a → PartsTells R P x
  parts_single order k a one only told = λ q. subst (λ es. OptionTells R (λ t. P (q, t)) (get o.cmp es q)) (sym one) (go q (is_eq (o.cmp q k)) refl)
    where
      go : (q : K) (b : Bool) → is_eq (o.cmp q k) ≡ b → OptionTells R (λ t. P (q, t)) (cond b (Some a) None)
      go q true h = subst (λ u. R (λ t. P (u, t)) a) (sym (same_key order q k h)) told
      go q false h = λ t member. true≢false (sym (ap is_eq (tied_itself order.total k)) ∙ ap (λ u. is_eq (o.cmp u k)) (sym (only q t member)) ∙ h)
