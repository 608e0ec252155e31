-- The first watch above a path is the first behind the place of the path.
use Rattle.std.proofs.Common.{◌≡◌, ℕ, zero, suc, ◌+◌, ◌<◌, ◌≤◌, Bool, true, false, cond, List, [], ◌∷◌, Option, Some, length, get_or, drop, refl, sym, ap, ◌∙◌, subst, inl, inr, arith}
use Rattle.std.proofs.lemmas.Bool.{cases_lt}
use Rattle.std.specs.Ordering.{is_lt}
use Rattle.std.specs.declared.cmp.Ordering.TheVariants.{Less, Equal, Greater}
use Rattle.lw_stamp.specs.declared.stamp.Stamp.{Stamp}
use Rattle.lw_join.specs.Entries.{Rises}
use Rattle.lw_join.specs.EntriesLaws.{turned}
use Rattle.lw_join.specs.inner.Place.{IsAt, IsGap}
use Rattle.lw_join.specs.declared.once.Once.{Once}
use Rattle.lw_join.specs.declared.or_gone.OrGone.{OrGone}
use Rattle.lw_join.specs.declared.or_gone.OrGone.TheVariants.{Here, Gone}
use Rattle.lw_join.proofs.Search.{rising}
use Rattle.lw_reg.specs.declared.path.Path.{Path}
use Rattle.lw_reg.specs.declared.watch.Watch.{Watch}
use Rattle.lw_reg.specs.Body.{Watching}
use Rattle.lw_reg.specs.OrderLaws.{path_order}
use Rattle.lw_reg.specs.Orders.{path_cmp}
use Rattle.lw_reg.specs.Reading.{first_watch, first_or, watch_of, is_above}

abbrev any : Watch → Bool
any w = true

module _ (p : Path) where
  -- an entry above the path passes, and one that is not is passed over
  taken : (e : Path × Watching) (r s : Option Watch) → is_lt (path_cmp p e.0) ≡ true → r ≡ s → first_or (is_above (Some p)) (watch_of e) r ≡ first_or any (watch_of e) s
  taken e r s above same = go e.0 e.1.stamp e.1.value above
    where
      go : (q : Path) (t : Stamp) (x : OrGone (Once ℕ)) → is_lt (path_cmp p q) ≡ true → first_or (is_above (Some p)) (watch_of (q, record { stamp = t; value = x })) r ≡ first_or any (watch_of (q, record { stamp = t; value = x })) s
      go q t Gone h = same
      go q t (Here a) h = ap (λ b. cond b (Some (record { token = t; path = q; accept = a.value })) r) h

  passed : (e : Path × Watching) (r : Option Watch) → is_lt (path_cmp p e.0) ≡ false → first_or (is_above (Some p)) (watch_of e) r ≡ r
  passed e r below = go e.0 e.1.stamp e.1.value below
    where
      go : (q : Path) (t : Stamp) (x : OrGone (Once ℕ)) → is_lt (path_cmp p q) ≡ false → first_or (is_above (Some p)) (watch_of (q, record { stamp = t; value = x })) r ≡ r
      go q t Gone h = refl
      go q t (Here a) h = ap (λ b. cond b (Some (record { token = t; path = q; accept = a.value })) r) h

  all_above : (es : List (Path × Watching)) → ((j : ℕ) (d : Path × Watching) → j < length es → is_lt (path_cmp p (get_or es j d).0) ≡ true) → first_watch (is_above (Some p)) es ≡ first_watch any es
  all_above [] h = refl
  all_above (e ∷ es) h = taken e (first_watch (is_above (Some p)) es) (first_watch any es) (h 0 e (omega arith)) (all_above es (λ j d lt. h (suc j) d (omega arith)))

  parted : (es : List (Path × Watching)) (i : ℕ) → ((j : ℕ) (d : Path × Watching) → j < i → j < length es → is_lt (path_cmp p (get_or es j d).0) ≡ false) → ((j : ℕ) (d : Path × Watching) → i ≤ j → j < length es → is_lt (path_cmp p (get_or es j d).0) ≡ true) → first_watch (is_above (Some p)) es ≡ first_watch any (drop i es)
  parted es zero before behind = all_above es (λ j d lt. behind j d (omega arith) lt)
  parted [] (suc i) before behind = refl
  parted (e ∷ es) (suc i) before behind =
      passed e (first_watch (is_above (Some p)) es) (before 0 e (omega arith) (omega arith))
      ∙ parted es i (λ j d lt len. before (suc j) d (omega arith) (omega arith)) (λ j d le lt. behind (suc j) d (omega arith) (omega arith))

  pub above_gap : (es : List (Path × Watching)) (i : ℕ) → IsGap path_cmp es p i → first_watch (λ _. true) (drop i es) ≡ first_watch (is_above (Some p)) es
  above_gap es i gap =
      sym (parted es i (λ j d lt len. ap is_lt (turned path_order (get_or es j d).0 p Less (gap.smaller j d (omega arith) lt))) (λ j d le lt. ap is_lt (turned path_order (get_or es j d).0 p Greater (gap.greater j d le lt))))

  pub above_place : (es : List (Path × Watching)) (i : ℕ) → Rises path_cmp es → IsAt path_cmp es p i → first_watch (λ _. true) (drop (i + 1) es) ≡ first_watch (is_above (Some p)) es
  above_place es i rises at = sym (parted es (i + 1) before behind)
    where
      own : (d : Path × Watching) → (get_or es i d).0 ≡ p
      own d = path_order.exact (get_or es i d).0 p (at.has_key d)

      before : (j : ℕ) (d : Path × Watching) → j < i + 1 → j < length es → is_lt (path_cmp p (get_or es j d).0) ≡ false
      before j d lt len = elim (cases_lt j i) [
        | inl less ↦ ap is_lt (turned path_order (get_or es j d).0 p Less (subst (λ q. path_cmp (get_or es j d).0 q ≡ Less) (own d) (rising path_order es j i d rises less at.in_range)))
        | inr ge ↦
            let same : i ≡ j = omega arith in
            subst (λ n. is_lt (path_cmp p (get_or es n d).0) ≡ false) same (ap is_lt (turned path_order (get_or es i d).0 p Equal (at.has_key d)))
      ]

      behind : (j : ℕ) (d : Path × Watching) → i + 1 ≤ j → j < length es → is_lt (path_cmp p (get_or es j d).0) ≡ true
      behind j d le lt = ap is_lt (subst (λ q. path_cmp q (get_or es j d).0 ≡ Less) (own d) (rising path_order es i j d rises (omega arith) lt))
