-- The first watch of rising entries that passes a test is the one on the least path.
use Rattle.std.proofs.Common.{◌≡◌, ℕ, Bool, true, false, List, [], ◌∷◌, Option, Some, None, sym, ap, ◌∙◌, subst, refl, cond}
use Rattle.std.specs.Ordering.{is_eq, is_gt}
use Rattle.std.specs.declared.cmp.Ordering.TheVariants.{Less}
use Rattle.lw_stamp.specs.Order.{AtMost}
use Rattle.lw_stamp.specs.declared.stamp.Stamp.{Stamp}
use Rattle.lw_join.specs.Entries.{AllAbove, Rises, get}
use Rattle.lw_join.specs.EntriesLaws.{same_key, get_below, get_first}
use Rattle.lw_join.specs.GreaterLaws.{at_most_refl}
use Rattle.lw_join.specs.declared.or_gone.OrGone.{OrGone}
use Rattle.lw_join.specs.declared.or_gone.OrGone.TheVariants.{Here, Gone}
use Rattle.lw_join.specs.declared.once.Once.{Once}
use Rattle.lw_reg.specs.declared.path.Path.{Path}
use Rattle.lw_reg.specs.declared.watch.Watch.{Watch}
use Rattle.lw_reg.specs.Body.{Watching}
use Rattle.lw_reg.specs.OrderLaws.{path_order}
use Rattle.lw_reg.specs.Orders.{path_cmp}
use Rattle.lw_reg.specs.Reading.{first_watch}
use Rattle.lw_reg.specs.Slot.{observed, cancelled}

-- the entries have the watch, not cancelled
abbrev pub HasWatch : List (Path × Watching) → Watch → Type 0
HasWatch entries w = get path_cmp entries w.path ≡ Some (observed w.token w.accept)

-- the watch that passes is there, and no other that passes is before it; or none passes
pub record IsFirstOf (test : Watch → Bool) (entries : List (Path × Watching)) (w : Watch) : Type 0 where
  pub there : HasWatch entries w
  pub passes : test w ≡ true
  pub first : (v : Watch) → HasWatch entries v → test v ≡ true → AtMost path_cmp w.path v.path

abbrev pub FirstOf : (Watch → Bool) → List (Path × Watching) → Option Watch → Type 0
FirstOf test entries None = (v : Watch) → HasWatch entries v → test v ≡ true → ⊥
FirstOf test entries (Some w) = IsFirstOf test entries w

true_not_false : {G : Type 0} (b : Bool) → b ≡ true → b ≡ false → G
true_not_false b h k = cc

-- a path has one token, and what it holds of that
pub one_watching : (t u : Stamp) (x y : OrGone (Once ℕ)) → ◌≡◌ {A = Option Watching} (Some (record { stamp = t; value = x })) (Some (record { stamp = u; value = y })) → (t ≡ u) × (x ≡ y)
one_watching t u x y h = (ap stamp_in h, ap value_in h)
  where
    stamp_in : Option Watching → Stamp
    stamp_in None = t
    stamp_in (Some w) = w.stamp

    value_in : Option Watching → OrGone (Once ℕ)
    value_in None = x
    value_in (Some w) = w.value

module _ (test : Watch → Bool) where
  -- a watch is the first entry's, or among the others
  by_entry : {G : Type 0} (p : Path) (x : Watching) (es : List (Path × Watching)) (v : Watch) → HasWatch ((p, x) ∷ es) v → (v.path ≡ p → Some x ≡ Some (observed v.token v.accept) → G) → (HasWatch es v → G) → G
  by_entry {G} p x es v h this other = go (is_eq (path_cmp v.path p)) refl h
    where
      go : (b : Bool) → is_eq (path_cmp v.path p) ≡ b → cond b (Some x) (get path_cmp es v.path) ≡ Some (observed v.token v.accept) → G
      go true e k = this (same_key path_order v.path p e) k
      go false e k = other k

  -- what the other entries have is there, and above the first entry
  others_there : (p : Path) (x : Watching) (es : List (Path × Watching)) (v : Watch) → Rises path_cmp ((p, x) ∷ es) → HasWatch es v → HasWatch ((p, x) ∷ es) v
  others_there p x es v rises h = go (is_eq (path_cmp v.path p)) refl
    where
      go : (b : Bool) → is_eq (path_cmp v.path p) ≡ b → cond b (Some x) (get path_cmp es v.path) ≡ Some (observed v.token v.accept)
      go true e = absurd (let none = get_below path_order v.path es (subst (λ q. AllAbove path_cmp q es) (sym (same_key path_order v.path p e)) rises.0) in let some = h in cc)
      go false e = h

  below_others : (p : Path) (es : List (Path × Watching)) (v : Watch) → AllAbove path_cmp p es → HasWatch es v → AtMost path_cmp p v.path
  below_others p [] v above h = absurd cc
  below_others p (e ∷ es) v above h = by_entry e.0 e.1 es v h
      (λ same k. ap is_gt (subst (λ q. path_cmp p q ≡ Less) (sym same) above.0))
      (λ k. below_others p es v above.1 k)

  -- an entry that is passed over
  passed : (p : Path) (x : Watching) (es : List (Path × Watching)) (o : Option Watch) → Rises path_cmp ((p, x) ∷ es) → ((v : Watch) → v.path ≡ p → Some x ≡ Some (observed v.token v.accept) → test v ≡ true → ⊥) → FirstOf test es o → FirstOf test ((p, x) ∷ es) o
  passed p x es None rises not_this h = λ v k passes. by_entry p x es v k (λ same this. not_this v same this passes) (λ other. h v other passes)
  passed p x es (Some w) rises not_this h = record {
    there = others_there p x es w rises h.there;
    passes = h.passes;
    first = λ v k passes. by_entry p x es v k (λ same this. absurd (not_this v same this passes)) (λ other. h.first v other passes);
  }

  own_key : (p : Path) (x : Watching) (es : List (Path × Watching)) → get path_cmp ((p, x) ∷ es) p ≡ Some x
  own_key p x es = get_first path_order (p, x) es

  -- an entry that is taken
  taken : (p : Path) (t : Stamp) (a : Once ℕ) (es : List (Path × Watching)) → Rises path_cmp ((p, record { stamp = t; value = Here a }) ∷ es) → test (record { token = t; path = p; accept = a.value }) ≡ true → IsFirstOf test ((p, record { stamp = t; value = Here a }) ∷ es) (record { token = t; path = p; accept = a.value })
  taken p t a es rises passes = record {
    there = own_key p (record { stamp = t; value = Here a }) es;
    passes = passes;
    first = λ v k good. by_entry p (record { stamp = t; value = Here a }) es v k
        (λ same this. subst (λ q. AtMost path_cmp p q) (sym same) (at_most_refl path_order p))
        (λ other. below_others p es v rises.0 other);
  }

  -- the watch of an entry is the one that it holds
  entry_watch : (p : Path) (t : Stamp) (a : Once ℕ) (v : Watch) → v.path ≡ p → Some (record { stamp = t; value = Here a }) ≡ Some (observed v.token v.accept) → v ≡ record { token = t; path = p; accept = a.value }
  entry_watch p t a v same this =
      let parts = one_watching t v.token (Here a) (Here (record { value = v.accept })) this in
      let accept : a.value ≡ v.accept = here_format a v.accept parts.1 in
      λ i. record { token = sym parts.0 i; path = same i; accept = sym accept i }
    where
      here_format : (a : Once ℕ) (o : Option ℕ) → Here a ≡ Here (record { value = o }) → a.value ≡ o
      here_format a o e = ap format_in e
        where
          format_in : OrGone (Once ℕ) → Option ℕ
          format_in Gone = o
          format_in (Here b) = b.value

  pub first_is : (es : List (Path × Watching)) → Rises path_cmp es → FirstOf test es (first_watch test es)
  first_is [] rises = λ v h passes. (let none = h in cc)
  first_is (e ∷ es) rises = step e.0 e.1.stamp e.1.value rises (first_is es rises.1)
    where
      by_test : (p : Path) (t : Stamp) (a : Once ℕ) (b : Bool) → test (record { token = t; path = p; accept = a.value }) ≡ b → Rises path_cmp ((p, record { stamp = t; value = Here a }) ∷ es) → FirstOf test es (first_watch test es) → FirstOf test ((p, record { stamp = t; value = Here a }) ∷ es) (cond b (Some (record { token = t; path = p; accept = a.value })) (first_watch test es))
      by_test p t a true passes rises rest = taken p t a es rises passes
      by_test p t a false fails rises rest = passed p (record { stamp = t; value = Here a }) es (first_watch test es) rises
          (λ v same this passes. true_not_false (test v) passes (ap test (entry_watch p t a v same this) ∙ fails)) rest

      step : (p : Path) (t : Stamp) (x : OrGone (Once ℕ)) → Rises path_cmp ((p, record { stamp = t; value = x }) ∷ es) → FirstOf test es (first_watch test es) → FirstOf test ((p, record { stamp = t; value = x }) ∷ es) (first_watch test ((p, record { stamp = t; value = x }) ∷ es))
      step p t Gone rises rest = passed p (cancelled t) es (first_watch test es) rises (λ v same this passes. not_gone (one_watching t v.token Gone (Here (record { value = v.accept })) this).1) rest
        where
          not_gone : {o : Option ℕ} → ◌≡◌ {A = OrGone (Once ℕ)} Gone (Here (record { value = o })) → ⊥
          not_gone e = cc
      step p t (Here a) rises rest = by_test p t a (test (record { token = t; path = p; accept = a.value })) refl rises rest
