-- What a binary search by key finds.
use Rattle.std.proofs.Common.{◌≡◌, ◌↔◌, ℕ, zero, suc, ◌+◌, ◌<◌, ◌≤◌, List, [], ◌∷◌, length, get_or, Bool, true, false, IsTrue, Result, Ok, Err, IfOk, IfErr, refl, inl, inr, sym, ap, ◌∙◌, subst, arith}
use Rattle.std.specs.List.{IsAllAdjacentAnswer}
use Rattle.std.specs.List.Sorted.{IsSearchInRange, IsBinarySearchResult, IsNonDecreasingBy}
use Rattle.std.specs.declared.cmp.Ordering.{Ordering}
use Rattle.std.specs.declared.cmp.Ordering.TheVariants.{Less, Equal, Greater}
use Rattle.std.specs.Ordering.{ordering_index, is_lt}
use mathlib.Core.Bool.{true≢false}
use Rattle.lw_join.specs.EntriesLaws.{is_Less, above_from}
use Rattle.std.specs.Cmp.{alike_right}
use Rattle.std.proofs.lemmas.Bool.{cases_lt}
use Rattle.lw_stamp.specs.Order.{IsExactOrder}
use Rattle.lw_join.specs.Entries.{AllAbove, Rises}
use Rattle.lw_join.specs.inner.Place.{IsAt, IsGap}

index_le : (r : Ordering) → ordering_index r ≤ 2
index_le Less = omega arith
index_le Equal = omega arith
index_le Greater = omega arith

module _ {K : Type 0} {cmp : K → K → Ordering} (order : IsExactOrder cmp) where
  index_by : (a b k : K) (s : Ordering) → cmp b k ≡ s → cmp a b ≡ Less → ordering_index (cmp a k) ≤ ordering_index s
  index_by a b k Less q h = let e : cmp a k ≡ Less = order.total.trans a b k h q in rw e (omega arith)
  index_by a b k Equal q h = let e : cmp a k ≡ Less = sym (alike_right order.total b k a q) ∙ h in rw e (omega arith)
  index_by a b k Greater q h = index_le (cmp a k)

module _ {K J : Type 0} {cmp : K → K → Ordering} (order : IsExactOrder cmp) where
  -- a key below all is below each
  pub above_at : (k : K) (es : List (K × J)) (j : ℕ) (d : K × J) → AllAbove cmp k es → j < length es → cmp k (get_or es j d).0 ≡ Less
  above_at k [] j d a h = absurd (omega arith)
  above_at k (e ∷ es) zero d a h = a.0
  above_at k (e ∷ es) (suc j) d a h = above_at k es j d a.1 (omega arith)

  -- an earlier key is below a later one
  pub rising : (es : List (K × J)) (i j : ℕ) (d : K × J) → Rises cmp es → i < j → j < length es → cmp (get_or es i d).0 (get_or es j d).0 ≡ Less
  rising [] i j d r lt h = absurd (omega arith)
  rising (e ∷ es) i zero d r lt h = absurd (omega arith)
  rising (e ∷ es) zero (suc j) d r lt h = above_at e.0 es j d r.0 (omega arith)
  rising (e ∷ es) (suc i) (suc j) d r lt h = rising es i j d r.1 (omega arith) (omega arith)

  -- the comparisons with k rise along the entries, as a binary search asks
  comparisons_rise : (es : List (K × J)) (k : K) → Rises cmp es → IsNonDecreasingBy (λ (e : K × J). ordering_index (cmp e.0 k)) es
  comparisons_rise es k r i j d le h = elim (cases_lt i j) [
    | inl lt ↦ index_by order (get_or es i d).0 (get_or es j d).0 k (cmp (get_or es j d).0 k) refl (rising es i j d r lt h)
    | inr ge ↦ let same : i ≡ j = omega arith in subst (λ n. ordering_index (cmp (get_or es i d).0 k) ≤ ordering_index (cmp (get_or es n d).0 k)) same (omega arith)
  ]

  -- a binary search by key ends at the key, or at the gap for it
  pub searched : (es : List (K × J)) (k : K) → Rises cmp es → (r : Result ℕ ℕ) → IsSearchInRange r (length es) → IsBinarySearchResult (λ (e : K × J). cmp e.0 k) es r → record { found : IfOk r (IsAt cmp es k); absent : IfErr r (IsGap cmp es k) }
  searched es k rises (Ok i) in_range equal = record { found = record { in_range = in_range; has_key = equal }; absent = tt }
  searched es k rises (Err i) in_range parted = let p = parted (comparisons_rise es k rises) in record { found = tt; absent = record { in_range = in_range; smaller = p.0; greater = p.1 } }

  -- entries each below the next rise
  adjacent_rises : (es : List (K × J)) → ((k : ℕ) (d : K × J) → suc k < length es → cmp (get_or es k d).0 (get_or es (suc k) d).0 ≡ Less) → Rises cmp es
  adjacent_rises [] h = tt
  adjacent_rises (e ∷ []) h = (tt, tt)
  adjacent_rises (e ∷ f ∷ es) h =
      let rest = adjacent_rises (f ∷ es) (λ k d lt. h (suc k) d (omega arith)) in
      let first = h 0 e (omega arith) in
      ((first, above_from order e.0 f.0 es first rest.0), rest)

  not_rising : (es : List (K × J)) (k : ℕ) → k + 1 < length es → ((d : K × J) → false ≡ is_lt (cmp (get_or es k d).0 (get_or es (k + 1) d).0)) → Rises cmp es → ⊥
  not_rising [] k lt h rises = absurd (omega arith)
  not_rising (e ∷ es) k lt h rises = true≢false (sym (ap is_lt (rising (e ∷ es) k (k + 1) e rises (omega arith) lt)) ∙ sym (h e))

  -- whether each entry is below the next says whether they rise
  pub sorted : (es : List (K × J)) (r : Bool) → IsAllAdjacentAnswer (λ (x y : K × J) b. b ≡ is_lt (cmp x.0 y.0)) es r → IsTrue r ↔ Rises cmp es
  sorted es true each =
      (λ _. adjacent_rises es (λ k d lt. is_Less (cmp (get_or es k d).0 (get_or es (suc k) d).0) (subst (λ n. is_lt (cmp (get_or es k d).0 (get_or es n d).0) ≡ true) (omega arith) (sym (each k d (omega arith))))), λ _. refl)
  sorted es false found = (λ h. absurd (true≢false (sym h)), λ rises. absurd (not_rising es found.0 found.1 found.2 rises))
