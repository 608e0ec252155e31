-- What is gathered of numbers and of endpoints.
use Rattle.std.proofs.Common.{◌≡◌, ◌⊎◌, inl, inr, ℕ, true, false, List, [], ◌∷◌, Option, Some, None, refl, sym, ap, subst, ◌∙◌}
use Rattle.std.specs.Prelude.{◌↔◌, Contains, IsSome, Result, Ok, Err, IfOk, slice_get}
use Rattle.std.specs.Option.{IsSomeAnd}
use Rattle.std.specs.FinMap.{get}
use Rattle.std.specs.List.{AllByRecursion}
use Rattle.std.specs.List.Sorted.{IsStrictlySortedBy}
use Rattle.std.specs.declared.cmp.Ordering.{Ordering}
use Rattle.std.specs.declared.cmp.Ordering.TheVariants.{Less}
use Rattle.lw_stamp.specs.TextOrder.{text_cmp}
use Rattle.lw_reg.specs.declared.slot.Slot.{Slot}
use Rattle.lw_reg.specs.State.{State}
use Rattle.lw_reg.proofs.Members.{none_there, first_there, more_there, there_or_first}
use Rattle.lw_table.specs.Table.{TableContent}
use Rattle.lw_table.specs.inner.Rows.{IsFiledUnder, IsNamed}
use Rattle.lw_table.specs.inner.Since.{AreNamedSince, slot_or, slots_at}
use Rattle.lw_table.specs.Rows.{name_of}
use Rattle.lw_table.specs.Changes.{Count, LAST, IsSince, IsSinceIn}
use Rattle.lw_table.specs.declared.rows.NamedRow.{NamedRow}

-- ---- a walk that gathers the endpoints of places
-- the names that were taken, and those of the places that are left, are all
abbrev pub Gathers : List NamedRow → List (List ℕ) → List ℕ → (List ℕ → Type 0) → Type 0
Gathers rows names left All = (e : List ℕ) → (Contains names e ⊎ ((place : ℕ) × Contains left place × IsNamed rows place e)) ↔ All e

module _ (rows : List NamedRow) (All : List ℕ → Type 0) (names : List (List ℕ)) (place : ℕ) (rest : List ℕ) (h : Gathers rows names (place ∷ rest) All) where
  -- the place has a row, whose endpoint is taken
  pub endpoint_gathered : (more : List (List ℕ)) (named : NamedRow) → slice_get rows place ≡ Some named → ((e : List ℕ) → Contains more e ↔ (Contains names e ⊎ (e ≡ name_of named))) → Gathers rows more rest All
  endpoint_gathered more named is added e = (there, back)
    where
      here : e ≡ name_of named → IsNamed rows place e
      here same = subst (λ o. IsSomeAnd o (λ (x : NamedRow). name_of x ≡ e)) (sym is) (sym same)

      one : Contains names e ⊎ (e ≡ name_of named) → All e
      one (inl old) = (h e).0 (inl old)
      one (inr same) = (h e).0 (inr (place, first_there place rest place refl, here same))

      there : Contains more e ⊎ ((p : ℕ) × Contains rest p × IsNamed rows p e) → All e
      there (inl m) = one ((added e).0 m)
      there (inr r) = (h e).0 (inr (r.0, more_there place rest r.0 r.1, r.2))

      named_is : (p : ℕ) → p ≡ place → IsNamed rows p e → e ≡ name_of named
      named_is p same n = sym (subst (λ o. IsSomeAnd o (λ (x : NamedRow). name_of x ≡ e)) (ap (slice_get rows) same ∙ is) n)

      back : All e → Contains more e ⊎ ((p : ℕ) × Contains rest p × IsNamed rows p e)
      back a = elim ((h e).1 a) [
        | inl old ↦ inl ((added e).1 (inl old))
        | inr r ↦ elim (there_or_first place rest r.0 r.1) [ inl same ↦ inl ((added e).1 (inr (named_is r.0 same r.2))) | inr more ↦ inr (r.0, more, r.2) ]
      ]

  -- it has none
  pub nothing_gathered : slice_get rows place ≡ None → Gathers rows names rest All
  nothing_gathered none e = (
    λ w. (h e).0 (elim w [ inl old ↦ inl old | inr r ↦ inr (r.0, more_there place rest r.0 r.1, r.2) ]),
    λ a. elim ((h e).1 a) [
      | inl old ↦ inl old
      | inr r ↦ elim (there_or_first place rest r.0 r.1) [
        | inl same ↦ absurd (subst (λ o. IsSomeAnd o (λ (x : NamedRow). name_of x ≡ e)) (ap (slice_get rows) same ∙ none) r.2)
        | inr more ↦ inr (r.0, more, r.2)
      ]
    ],
  )

-- where nothing is left, all are gathered
pub all_gathered : (rows : List NamedRow) (All : List ℕ → Type 0) (names : List (List ℕ)) (left : List ℕ) → left ≡ [] → Gathers rows names left All → (e : List ℕ) → Contains names e ↔ All e
all_gathered rows All names left none h e = (
  λ c. (h e).0 (inl c),
  λ a. elim ((h e).1 a) [ inl c ↦ c | inr r ↦ none_there r.0 (subst (λ (l : List ℕ). Contains l r.0) none r.1) ],
)

-- ---- the slots of endpoints
module _ (state : State) where
  slots_member : (es : List (List ℕ)) (e : List ℕ) (slot : Slot) → Contains (slots_at state es) (e, slot) → Contains es e × (get state e ≡ Some slot)
  slots_member [] e slot c = none_there (e, slot) c
  slots_member (x ∷ xs) e slot c = go (get state x) refl c (slots_member xs e slot)
    where
      here : (s : Slot) → get state x ≡ Some s → ◌≡◌ {A = List ℕ × Slot} (e, slot) (x, s) → Contains (x ∷ xs) e × (get state e ≡ Some slot)
      here s h same =
          let at : e ≡ x = ap (λ w. w.0) same in
          let is : slot ≡ s = ap (λ w. w.1) same in
          (first_there x xs e at, ap (get state) at ∙ h ∙ ap (λ (w : Slot). Some w) (sym is))

      later : (Contains (slots_at state xs) (e, slot) → Contains xs e × (get state e ≡ Some slot)) → Contains (slots_at state xs) (e, slot) → Contains (x ∷ xs) e × (get state e ≡ Some slot)
      later more c = let m = more c in (more_there x xs e m.0, m.1)

      go : (o : Option Slot) → get state x ≡ o → Contains (slot_or x o (slots_at state xs)) (e, slot) → (Contains (slots_at state xs) (e, slot) → Contains xs e × (get state e ≡ Some slot)) → Contains (x ∷ xs) e × (get state e ≡ Some slot)
      go None h c more = later more c
      go (Some s) h c more = elim (there_or_first (x, s) (slots_at state xs) (e, slot) c) [ inl same ↦ here s h same | inr there ↦ later more there ]

  member_slots : (es : List (List ℕ)) (e : List ℕ) (slot : Slot) → Contains es e → get state e ≡ Some slot → Contains (slots_at state es) (e, slot)
  member_slots [] e slot c h = none_there e c
  member_slots (x ∷ xs) e slot c h = go (there_or_first x xs e c) (member_slots xs e slot)
    where
      pushed : (o : Option Slot) → Contains (slots_at state xs) (e, slot) → Contains (slot_or x o (slots_at state xs)) (e, slot)
      pushed None d = d
      pushed (Some s) d = more_there (x, s) (slots_at state xs) (e, slot) d

      go : (e ≡ x) ⊎ Contains xs e → (Contains xs e → get state e ≡ Some slot → Contains (slots_at state xs) (e, slot)) → Contains (slots_at state (x ∷ xs)) (e, slot)
      go (inl same) more =
          subst (λ (o : Option Slot). Contains (slot_or x o (slots_at state xs)) (e, slot)) (sym (ap (get state) (sym same) ∙ h))
          (first_there (x, slot) (slots_at state xs) (e, slot) (λ i. (same i, slot)))
      go (inr there) more = pushed (get state x) (more there h)

  pub slots_are : (es : List (List ℕ)) (e : List ℕ) (slot : Slot) → Contains (slots_at state es) (e, slot) ↔ (Contains es e × (get state e ≡ Some slot))
  slots_are es e slot = (slots_member es e slot, λ h. member_slots es e slot h.0 h.1)

  abbrev pub by_endpoint : List ℕ × Slot → List ℕ × Slot → Ordering
  by_endpoint x y = text_cmp x.0 y.0

  slots_above : (x : List ℕ) (s : Slot) (es : List (List ℕ)) → AllByRecursion (λ k. text_cmp x k ≡ Less) es → AllByRecursion (λ k. by_endpoint (x, s) k ≡ Less) (slots_at state es)
  slots_above x s [] h = tt
  slots_above x s (e ∷ es) h = go (get state e) (slots_above x s es h.1)
    where
      go : (o : Option Slot) → AllByRecursion (λ k. by_endpoint (x, s) k ≡ Less) (slots_at state es) → AllByRecursion (λ k. by_endpoint (x, s) k ≡ Less) (slot_or e o (slots_at state es))
      go None rest = rest
      go (Some t) rest = (h.0, rest)

  pub slots_rise : (es : List (List ℕ)) → IsStrictlySortedBy text_cmp es → IsStrictlySortedBy by_endpoint (slots_at state es)
  unfolding IsStrictlySortedBy
  slots_rise [] h = tt
  slots_rise (e ∷ es) h = go (get state e) (slots_rise es h.1)
    where
      go : (o : Option Slot) → IsStrictlySortedBy by_endpoint (slots_at state es) → IsStrictlySortedBy by_endpoint (slot_or e o (slots_at state es))
      go None rest = rest
      go (Some s) rest = (slots_above e s es h.0, rest)

-- ---- what has moved since a number
module _ (state : State) (count : Count) (since : ℕ) (names : List (List ℕ)) (rise : IsStrictlySortedBy text_cmp names) where
  -- the names are those that moved since
  pub since_is : ((e : List ℕ) (slot : Slot) → get state e ≡ Some slot → Contains names e ↔ IsSince count since e) → IsSinceIn state count since (slots_at state names)
  since_is are = record {
    rising = slots_rise state names rise;
    members = λ e slot. (
      λ c. let m = (slots_are state names e slot).0 c in (m.1, (are e slot m.1).0 m.0),
      λ h. (slots_are state names e slot).1 ((are e slot h.0).1 h.1, h.0),
    );
  }

some_there : (o : Option ℕ) → IsSome o → (n : ℕ) × (o ≡ Some n)
some_there None h = absurd (let bad : false ≡ true = h in cc)
some_there (Some n) h = (n, refl)

-- ---- all that moved, by what is filed under numbers
-- all have moved, at the last number
pub all_since : (numbers : List (ℕ × ℕ)) (rows : List NamedRow) (table : TableContent) (since : ℕ) (names : List (List ℕ)) → ((e : List ℕ) → IsSome (get table.state e) ↔ IsSome (get table.count.numbers e)) → table.count.change ≡ LAST
    → ((n : ℕ) (e : List ℕ) → IsFiledUnder rows numbers n e ↔ (get table.count.numbers e ≡ Some n)) → AreNamedSince None numbers rows names
    → (e : List ℕ) (slot : Slot) → get table.state e ≡ Some slot → Contains names e ↔ IsSince table.count since e
all_since numbers rows table since names numbered last filed are e slot h = (
  λ c. inl last,
  λ s.
      let number = some_there (get table.count.numbers e) ((numbered e).0 (subst IsSome (sym h) refl)) in
      let under = (filed number.0 e).1 number.1 in
      (are e).1 (number.0, under.0, under.1, tt, under.2),
)

-- those that are filed above the number
pub some_since : (numbers : List (ℕ × ℕ)) (rows : List NamedRow) (count : Count) (since : ℕ) (names : List (List ℕ)) → (count.change ≡ LAST → ⊥)
    → ((n : ℕ) (e : List ℕ) → IsFiledUnder rows numbers n e ↔ (get count.numbers e ≡ Some n)) → AreNamedSince (Some since) numbers rows names → (e : List ℕ) → Contains names e ↔ IsSince count since e
some_since numbers rows count since names not_last filed are e = (there, back)
  where
    there : Contains names e → IsSince count since e
    there c = let f = (are e).0 c in inr (f.0, (filed f.0 e).0 (f.1, f.2, f.4), f.3)

    back : IsSince count since e → Contains names e
    back (inl last) = absurd (not_last last)
    back (inr f) = let under = (filed f.0 e).1 f.1 in (are e).1 (f.0, under.0, under.1, f.2, under.2)

-- a result that is another list's is what that is
pub if_slots : {T E : Type 0} (P Q : T → Type 0) → ((t : T) → P t → Q t) → (r : Result T E) → IfOk r P → IfOk r Q
if_slots P Q f (Ok t) h = f t h
if_slots P Q f (Err e) h = tt
