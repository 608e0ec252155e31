-- What a change at one key of an index does to its pairs.
use Rattle.std.proofs.Common.{◌≡◌, ◌≢◌, ◌⊎◌, ◌↔◌, inl, inr, ℕ, List, [], ◌∷◌, Option, Some, None, Bool, true, false, cond, ◌&&◌, ◌||◌, not, refl, sym, ap, ◌∙◌, arith}
use Rattle.std.specs.Prelude.{Contains, bytes_eq, unwrap_or}
use Rattle.std.specs.declared.cmp.Ordering.{Ordering}
use Rattle.std.specs.declared.cmp.Ordering.TheVariants.{Less, Equal, Greater}
use Rattle.std.specs.Ordering.{is_eq, nat_cmp, eq_by_cmp, match_ordering}
use Rattle.std.specs.Cmp.{IsTotalOrder, IsEquivalence, Equal-is, tied_back}
use Rattle.std.specs.Cmp.Lexicographic.{slice_cmp, nat_list_cmp_total}
use Rattle.std.specs.Map.{lookup, remove_entry, set_value}
use Rattle.std.specs.BTreeMap.{insert_entry}
use Rattle.std.proofs.lemmas.Cmp.{eq_by_cmp_equiv}
use Rattle.std.proofs.lemmas.Map.Lookups.{exact_bytes}
use Rattle.std.proofs.lemmas.Map.Views.{Contains-from_any, list_any-from_Contains, tells_apart}
use Rattle.std.proofs.lemmas.Slice.Eq.{bytes_eq-Decides}
use Rattle.lw_index.specs.Index.{EachHasEndpoints, Has, IsPair}
use Rattle.lw_index.specs.inner.Texts.{has_text}
use Rattle.lw_index.proofs.TextLemmas.{true_or_not}

-- the text is in the list, if there is one
abbrev pub held : Option (List (List ℕ)) → List ℕ → Bool
held None e = false
held (Some texts) e = has_text texts e

texts_are : IsEquivalence (eq_by_cmp (slice_cmp nat_cmp))
texts_are = eq_by_cmp_equiv nat_list_cmp_total

contains_held : (o : Option (List (List ℕ))) (e : List ℕ) → held o e ≡ true → Contains (unwrap_or o []) e
contains_held None e h = absurd cc
contains_held (Some texts) e h = Contains-from_any (tells_apart exact_bytes) e texts h

held_contains : (o : Option (List (List ℕ))) (e : List ℕ) → Contains (unwrap_or o []) e → held o e ≡ true
held_contains None e h = absurd (omega arith)
held_contains (Some texts) e h = list_any-from_Contains texts_are e texts h

module _ {K : Type 0} (cmp : K → K → Ordering) where
  pair_at : IsTotalOrder cmp → (key k : K) (bs e : List ℕ) → is_eq (cmp key k) ≡ true → bytes_eq bs e ≡ true → IsPair cmp key bs k e
  pair_at o key k bs e h t = (tied_back o key k ((Equal-is (cmp key k)).0 h), sym ((bytes_eq-Decides bs e).0 t))

  at_pair : IsTotalOrder cmp → (key k : K) (bs e : List ℕ) → IsPair cmp key bs k e → (is_eq (cmp key k) ≡ true) × (bytes_eq bs e ≡ true)
  at_pair o key k bs e p = ((Equal-is (cmp key k)).1 (tied_back o k key p.0), (bytes_eq-Decides bs e).1 (sym p.1))

module _ {K : Type 0} (cmp : K → K → Ordering) where
  -- the texts of a key
  abbrev at : List (K × List (List ℕ)) → K → Option (List (List ℕ))
  at es k = lookup (λ q. is_eq (cmp k q)) es

  pub has_held : (es : List (K × List (List ℕ))) (k : K) (e : List ℕ) → Has cmp es k e → held (at es k) e ≡ true
  has_held es k e h = held_contains (at es k) e h

  pub held_has : (es : List (K × List (List ℕ))) (k : K) (e : List ℕ) → held (at es k) e ≡ true → Has cmp es k e
  held_has es k e h = contains_held (at es k) e h

  -- keys that compare equal have one list
  pub at_same : IsTotalOrder cmp → (es : List (K × List (List ℕ))) (key k : K) → is_eq (cmp key k) ≡ true → at es key ≡ at es k
  at_same o es key k h i = lookup (λ q. is_eq (o.congr key k q ((Equal-is (cmp key k)).0 h) i)) es

  module _ (o : IsTotalOrder cmp) (es ns : List (K × List (List ℕ))) (key : K) (bs : List ℕ) (w : Option (List (List ℕ)))
      (update : (q : K) → at ns q ≡ cond (is_eq (cmp key q)) w (at es q)) where
    here : (k : K) (e : List ℕ) → is_eq (cmp key k) ≡ true → held (at ns k) e ≡ held w e
    here k e h = ap (λ (s : Option (List (List ℕ))). held s e) (update k ∙ ap (λ b. cond b w (at es k)) h)

    apart : (k : K) (e : List ℕ) → is_eq (cmp key k) ≡ false → held (at ns k) e ≡ held (at es k) e
    apart k e h = ap (λ (s : Option (List (List ℕ))). held s e) (update k ∙ ap (λ b. cond b w (at es k)) h)

    before : (k : K) (e : List ℕ) → is_eq (cmp key k) ≡ true → held (at es key) e ≡ held (at es k) e
    before k e h = ap (λ (s : Option (List (List ℕ))). held s e) (at_same o es key k h)

    module _ (more : (e : List ℕ) → held w e ≡ (held (at es key) e || bytes_eq bs e)) where
      added_to : (k : K) (e : List ℕ) → held (at ns k) e ≡ true → (held (at es k) e ≡ true) ⊎ IsPair cmp key bs k e
      added_to k e h =
          true_or_not (is_eq (cmp key k))
          (λ t. true_or_not (held (at es key) e)
          (λ old. inl (sym (before k e t) ∙ old))
          (λ new. inr (pair_at cmp o key k bs e t (ap (λ b. b || bytes_eq bs e) (sym new) ∙ sym (more e) ∙ sym (here k e t) ∙ h))))
          (λ f. inl (sym (apart k e f) ∙ h))

      or_true : (a b : Bool) → b ≡ true → (a || b) ≡ true
      or_true true b h = refl
      or_true false b h = h

      added_from : (k : K) (e : List ℕ) → (held (at es k) e ≡ true) ⊎ IsPair cmp key bs k e → held (at ns k) e ≡ true
      added_from k e (inl old) =
          true_or_not (is_eq (cmp key k)) (λ t. here k e t ∙ more e ∙ ap (λ b. b || bytes_eq bs e) (before k e t ∙ old)) (λ f. apart k e f ∙ old)
      added_from k e (inr p) =
          let q = at_pair cmp o key k bs e p in
          here k e q.0 ∙ more e ∙ or_true (held (at es key) e) (bytes_eq bs e) q.1

      pub added : (k : K) (e : List ℕ) → Has cmp ns k e ↔ (Has cmp es k e ⊎ IsPair cmp key bs k e)
      added k e = (
        λ h. elim (added_to k e (has_held ns k e h)) [ inl old ↦ inl (held_has es k e old) | inr p ↦ inr p ],
        λ h. held_has ns k e (elim h [ inl old ↦ added_from k e (inl (has_held es k e old)) | inr p ↦ added_from k e (inr p) ]),
      )

    module _ (less : (e : List ℕ) → held w e ≡ (held (at es key) e && not (bytes_eq bs e))) where
      both : (a b : Bool) → (a && not b) ≡ true → (a ≡ true) × (b ≡ false)
      both true false h = (refl, refl)
      both true true h = absurd cc
      both false b h = absurd cc

      pub dropped : (k : K) (e : List ℕ) → Has cmp ns k e ↔ (Has cmp es k e × (IsPair cmp key bs k e → ⊥))
      dropped k e = (
        λ h. let is = has_held ns k e h in
            true_or_not (is_eq (cmp key k))
            (λ t. let parts = both (held (at es key) e) (bytes_eq bs e) (sym (less e) ∙ sym (here k e t) ∙ is) in
            (held_has es k e (sym (before k e t) ∙ parts.0), λ p. let q = at_pair cmp o key k bs e p in absurd cc))
            (λ f. (held_has es k e (sym (apart k e f) ∙ is), λ p. let q = at_pair cmp o key k bs e p in absurd cc)),
        λ h. held_has ns k e (true_or_not (is_eq (cmp key k))
            (λ t. true_or_not (bytes_eq bs e)
            (λ same. absurd (h.1 (pair_at cmp o key k bs e t same)))
            (λ other. here k e t ∙ less e ∙ ap (λ a. a && not (bytes_eq bs e)) (before k e t ∙ has_held es k e h.0) ∙ ap not other))
            (λ f. apart k e f ∙ has_held es k e h.0)),
      )

-- no key is left without a text
each_order : {K : Type 0} (r : Ordering) (xs ys zs : List (K × List (List ℕ))) → EachHasEndpoints xs → EachHasEndpoints ys → EachHasEndpoints zs → EachHasEndpoints (match_ordering r xs ys zs)
each_order Less xs ys zs h k l = h
each_order Equal xs ys zs h k l = k
each_order Greater xs ys zs h k l = l

pub each_insert : {K : Type 0} (cmp : K → K → Ordering) (k : K) (w : List (List ℕ)) (es : List (K × List (List ℕ))) → EachHasEndpoints es → w ≢ [] → EachHasEndpoints (insert_entry cmp es k w)
each_insert cmp k w [] h some = (some, tt)
each_insert cmp k w (p ∷ ps) h some =
    each_order (cmp k p.0) ((k, w) ∷ p ∷ ps) ((p.0, w) ∷ ps) (p ∷ insert_entry cmp ps k w) (some, h) (some, h.1) (h.0, each_insert cmp k w ps h.1 some)

each_cond : {K : Type 0} (b : Bool) (xs ys : List (K × List (List ℕ))) → EachHasEndpoints xs → EachHasEndpoints ys → EachHasEndpoints (cond b xs ys)
each_cond true xs ys h k = h
each_cond false xs ys h k = k

pub each_remove : {K : Type 0} (test : K → Bool) (es : List (K × List (List ℕ))) → EachHasEndpoints es → EachHasEndpoints (remove_entry test es)
each_remove test [] h = tt
each_remove test (p ∷ ps) h = each_cond (test p.0) ps (p ∷ remove_entry test ps) h.1 (h.0, each_remove test ps h.1)

found_step : (b : Bool) (s v : List (List ℕ)) (r : Option (List (List ℕ))) → cond b (Some s) r ≡ Some v → s ≢ [] → (r ≡ Some v → v ≢ []) → v ≢ []
found_step true s v r h some rest = λ e. let same : s ≡ v = cc in some (same ∙ e)
found_step false s v r h some rest = rest h

-- a key that is there has a text
pub each_found : {K : Type 0} (test : K → Bool) (v : List (List ℕ)) (es : List (K × List (List ℕ))) → lookup test es ≡ Some v → EachHasEndpoints es → v ≢ []
each_found test v [] h some = absurd cc
each_found test v (p ∷ ps) h some = found_step (test p.0) p.1 v (lookup test ps) h some.0 (λ r. each_found test v ps r some.1)

pub each_set : {K : Type 0} (test : K → Bool) (w : List (List ℕ)) (es : List (K × List (List ℕ))) → EachHasEndpoints es → w ≢ [] → EachHasEndpoints (set_value test es w)
each_set test w [] h some = tt
each_set test w (p ∷ ps) h some = each_cond (test p.0) ((p.0, w) ∷ ps) (p ∷ set_value test ps w) (some, h.1) (h.0, each_set test w ps h.1 some)
