-- What is found at the rows of places, one place after another, and which endpoints are filed under a key or a number.
use Rattle.std.proofs.Common.{◌≡◌, ◌⊎◌, inl, inr, ℕ, List, [], ◌∷◌, Option, Some, None, refl, sym, ap, subst, ◌∙◌, slice_get}
use Rattle.std.specs.Prelude.{◌↔◌, Contains}
use Rattle.std.specs.Cmp.{IsTotalOrder}
use Rattle.std.specs.FinMap.{get}
use Rattle.std.specs.Option.{IsSomeAnd, option_map}
use Rattle.std.specs.declared.cmp.Ordering.{Ordering}
use Rattle.std.proofs.lemmas.Cmp.{back_total, on_total, then_total}
use Rattle.std.proofs.lemmas.Option.{slice_get-map}
use Rattle.lw_stamp.specs.declared.stamp.Stamp.{Stamp}
use Rattle.lw_stamp.proofs.StampLemmas.{stamp_order}
use Rattle.lw_index.specs.Places.{IsPlaceOf}
use Rattle.lw_reg.specs.OrderLaws.{text_order}
use Rattle.lw_reg.specs.Registration.{Registration}
use Rattle.lw_reg.specs.declared.slot.Slot.{Slot}
use Rattle.lw_reg.specs.declared.watch.Watch.{Watch}
use Rattle.lw_reg.proofs.Members.{none_there, first_there, more_there, there_or_first}
use Rattle.lw_table.specs.Keys.{OptionHasKey}
use Rattle.lw_table.specs.Rows.{IsRows, held_in, name_of, numbers_in, place_of, state_in}
use Rattle.lw_table.specs.Table.{number_of, slot_of}
use Rattle.lw_table.specs.inner.Found.{LeastFound, holder_cmp, lesser_of, there_with, view_cmp, watch_cmp}
use Rattle.lw_table.specs.inner.Copying.{NumbersAll}
use Rattle.lw_table.specs.inner.Rows.{IsFiledUnder, IsNamed, row_at, row_from}
use Rattle.lw_table.specs.declared.key.Key.{Key}
use Rattle.lw_table.specs.declared.row.Row.{Row}
use Rattle.lw_table.specs.declared.rows.NamedRow.{NamedRow}
use Rattle.lw_table.specs.declared.rows.Rows.{Rows}
use Rattle.lw_table.proofs.FirstLemmas.{least_more, least_same}
use Rattle.lw_table.proofs.RowLemmas.{row_there, there_of}
use Rattle.lw_table.proofs.TableLemmas.{get-number, get-state}

-- ---- the orders of what is found
pub view_total : IsTotalOrder view_cmp
view_total = on_total (λ (r : Registration). r.endpoint) text_order.total

pub watch_total : IsTotalOrder watch_cmp
watch_total = on_total (λ (x : Registration × Watch). x.0) view_total

pub holder_total : IsTotalOrder holder_cmp
holder_total = then_total (on_total (λ (x : Stamp × Registration). x.0) (back_total stamp_order.total)) (on_total (λ (x : Stamp × Registration). x.1) view_total)

-- ---- places
-- the endpoint of a row at one of these places
abbrev pub IsNamedAmong : List NamedRow → List ℕ → List ℕ → Type 0
IsNamedAmong rows places e = (place : ℕ) × Contains places place × IsNamed rows place e

-- what f gives of an endpoint in the state of the rows
abbrev pub found_in : {A : Type 0} → (List ℕ → Option Slot → Option A) → Rows → List ℕ → Option A
found_in f m e = f e (get (state_in m) e)

-- the places that were passed and those that are left are those of the key, and the least was found of those passed
pub record IsWalked {A : Type 0} (cmp : A → A → Ordering) (f : List ℕ → Option Slot → Option A) (m : Rows) (keys : List (Key × ℕ)) (key : Key) (left : List ℕ) (o : Option A) : Type 0 where
  pub passed : List ℕ
  pub all : (p : ℕ) → IsPlaceOf keys key p ↔ (Contains passed p ⊎ Contains left p)
  pub least : LeastFound cmp (found_in f m) (IsNamedAmong m.rows.items passed) o

name_is : (o : Option NamedRow) (named : NamedRow) (e : List ℕ) → o ≡ Some named → IsSomeAnd o (λ (x : NamedRow). name_of x ≡ e) → name_of named ≡ e
name_is o named e is h = subst (λ o. IsSomeAnd o (λ (x : NamedRow). name_of x ≡ e)) is h

no_name : (o : Option NamedRow) (e : List ℕ) → o ≡ None → IsSomeAnd o (λ (x : NamedRow). name_of x ≡ e) → ⊥
no_name o e none h = subst (λ o. IsSomeAnd o (λ (x : NamedRow). name_of x ≡ e)) none h

some_name : (o : Option NamedRow) (named : NamedRow) (e : List ℕ) → o ≡ Some named → name_of named ≡ e → IsSomeAnd o (λ (x : NamedRow). name_of x ≡ e)
some_name o named e is h = subst (λ o. IsSomeAnd o (λ (x : NamedRow). name_of x ≡ e)) (sym is) h

no_number : (n : ℕ) → ◌≡◌ {A = Option ℕ} None (Some n) → ⊥
no_number n h = cc

-- the row at a place is that of its endpoint
module _ (m : Rows) (rows_m : IsRows m) where
  row_named : (place : ℕ) (named : NamedRow) (e : List ℕ) → slice_get m.rows.items place ≡ Some named → name_of named ≡ e → row_at m e ≡ Some named.row
  row_named place named e is name = row_there m e place named (ap (place_of m) (sym name) ∙ rows_m.found place named is) is

  held_there : (place : ℕ) (named : NamedRow) → slice_get m.rows.items place ≡ Some named → slice_get (held_in m) place ≡ Some named.row
  held_there place named is = slice_get-map (λ (x : NamedRow). x.row) m.rows.items place ∙ ap (option_map (λ (x : NamedRow). x.row)) is

  -- ---- a walk over the places of a key
  module _ {A : Type 0} {cmp : A → A → Ordering} (total : IsTotalOrder cmp) (f : List ℕ → Option Slot → Option A) (keys : List (Key × ℕ)) (key : Key) where
    abbrev Walked : List ℕ → Option A → Type 0
    Walked = IsWalked cmp f m keys key

    pub walk_starts : (left : List ℕ) → ((p : ℕ) → Contains left p ↔ IsPlaceOf keys key p) → Walked left None
    walk_starts left all = record {
      passed = [];
      all = λ p. (λ h. inr ((all p).1 h), λ h. elim h [ inl none ↦ none_there p none | inr there ↦ (all p).0 there ]);
      least = λ e b d found. none_there d.0 d.1;
    }

    here_or_there : (passed : List ℕ) (place : ℕ) (rest : List ℕ) → ((p : ℕ) → IsPlaceOf keys key p ↔ (Contains passed p ⊎ Contains (place ∷ rest) p))
        → (p : ℕ) → IsPlaceOf keys key p ↔ (Contains (place ∷ passed) p ⊎ Contains rest p)
    here_or_there passed place rest all p = (
      λ h. elim ((all p).0 h) [
        | inl old ↦ inl (more_there place passed p old)
        | inr left ↦ elim (there_or_first place rest p left) [ inl same ↦ inl (first_there place passed p same) | inr more ↦ inr more ]
      ],
      λ h. (all p).1 (elim h [
        | inl now ↦ elim (there_or_first place passed p now) [ inl same ↦ inr (first_there place rest p same) | inr old ↦ inl old ]
        | inr left ↦ inr (more_there place rest p left)
      ]),
    )

    named_more : (passed : List ℕ) (place : ℕ) (named : NamedRow) → slice_get m.rows.items place ≡ Some named
        → (e : List ℕ) → IsNamedAmong m.rows.items (place ∷ passed) e ↔ (IsNamedAmong m.rows.items passed e ⊎ (e ≡ name_of named))
    named_more passed place named is e = (
      λ d. elim (there_or_first place passed d.0 d.1) [
        | inl same ↦ inr (sym (name_is (slice_get m.rows.items d.0) named e (ap (slice_get m.rows.items) same ∙ is) d.2))
        | inr old ↦ inl (d.0, old, d.2)
      ],
      λ h. elim h [
        | inl d ↦ (d.0, more_there place passed d.0 d.1, d.2)
        | inr same ↦ (place, first_there place passed place refl, some_name (slice_get m.rows.items place) named e is (sym same))
      ],
    )

    named_same : (passed : List ℕ) (place : ℕ) → slice_get m.rows.items place ≡ None → (e : List ℕ) → IsNamedAmong m.rows.items (place ∷ passed) e ↔ IsNamedAmong m.rows.items passed e
    named_same passed place none e = (
      λ d. elim (there_or_first place passed d.0 d.1) [
        | inl same ↦ absurd (no_name (slice_get m.rows.items d.0) e (ap (slice_get m.rows.items) same ∙ none) d.2)
        | inr old ↦ (d.0, old, d.2)
      ],
      λ d. (d.0, more_there place passed d.0 d.1, d.2),
    )

    pub walk_goes : (place : ℕ) (rest left : List ℕ) (o seen next : Option A) → left ≡ place ∷ rest → seen ≡ there_with f (slice_get m.rows.items place) → next ≡ lesser_of cmp o seen → Walked left o → Walked rest next
    walk_goes place rest left o seen next is see take h = record {
      passed = place ∷ h.passed;
      all = here_or_there h.passed place rest (subst (λ (l : List ℕ). (p : ℕ) → IsPlaceOf keys key p ↔ (Contains h.passed p ⊎ Contains l p)) is h.all);
      least = subst (LeastFound cmp (found_in f m) (IsNamedAmong m.rows.items (place ∷ h.passed))) (sym (take ∙ ap (lesser_of cmp o) see)) (go (slice_get m.rows.items place) refl);
    }
      where
        go : (row : Option NamedRow) → slice_get m.rows.items place ≡ row → LeastFound cmp (found_in f m) (IsNamedAmong m.rows.items (place ∷ h.passed)) (lesser_of cmp o (there_with f row))
        go None none = least_same total (found_in f m) (IsNamedAmong m.rows.items h.passed) (IsNamedAmong m.rows.items (place ∷ h.passed)) (named_same h.passed place none) o h.least
        go (Some named) there =
            least_more total (found_in f m) (IsNamedAmong m.rows.items h.passed) (IsNamedAmong m.rows.items (place ∷ h.passed)) (name_of named) (named_more h.passed place named there) o h.least
            (f (name_of named) (Some named.row.slot))
            (ap (f (name_of named)) (get-state m rows_m (name_of named) ∙ ap slot_of (row_named place named (name_of named) there refl)))

    pub walk_ends : (left : List ℕ) (o : Option A) → left ≡ [] → Walked left o → LeastFound cmp (found_in f m) (IsFiledUnder m.rows.items keys key) o
    walk_ends left o none h = least_same total (found_in f m) (IsNamedAmong m.rows.items h.passed) (IsFiledUnder m.rows.items keys key) same o h.least
      where
        passed_all : (p : ℕ) → Contains h.passed p ⊎ Contains left p → Contains h.passed p
        passed_all p (inl c) = c
        passed_all p (inr c) = none_there p (subst (λ (l : List ℕ). Contains l p) none c)

        same : (e : List ℕ) → IsFiledUnder m.rows.items keys key e ↔ IsNamedAmong m.rows.items h.passed e
        same e = (λ d. (d.0, passed_all d.0 ((h.all d.0).0 d.1), d.2), λ d. (d.0, (h.all d.0).1 (inl d.1), d.2))

  -- ---- what is filed, by its endpoint
  -- the places of what rows have lead to the endpoints of those rows
  module _ {K : Type 0} (Has : K → Option Row → Type 0) (no_row : (k : K) → Has k None → ⊥) (pairs : List (K × ℕ)) (all : (k : K) (place : ℕ) → IsPlaceOf pairs k place ↔ Has k (slice_get (held_in m) place)) where
    under_has : (k : K) (e : List ℕ) → IsFiledUnder m.rows.items pairs k e → Has k (row_at m e)
    under_has k e under = go (slice_get m.rows.items under.0) refl
      where
        go : (o : Option NamedRow) → slice_get m.rows.items under.0 ≡ o → Has k (row_at m e)
        go None none = absurd (no_name (slice_get m.rows.items under.0) e none under.2)
        go (Some named) is =
            let name = name_is (slice_get m.rows.items under.0) named e is under.2 in
            subst (Has k) (held_there under.0 named is ∙ sym (row_named under.0 named e is name)) ((all k under.0).0 under.1)

    has_under : (k : K) (e : List ℕ) → Has k (row_at m e) → IsFiledUnder m.rows.items pairs k e
    has_under k e = go (place_of m e) refl
      where
        go : (o : Option ℕ) → place_of m e ≡ o → Has k (row_at m e) → IsFiledUnder m.rows.items pairs k e
        go None none h = absurd (no_row k (subst (λ p. Has k (row_from m.rows.items p)) none h))
        go (Some place) is h =
            let there = there_of m rows_m e place is in (
              place,
              (all k place).1 (subst (Has k) (row_there m e place there.0 is there.1 ∙ sym (held_there place there.0 there.1)) h),
              some_name (slice_get m.rows.items place) there.0 e there.1 there.2,
            )

    rows_under : (k : K) (e : List ℕ) → IsFiledUnder m.rows.items pairs k e ↔ Has k (row_at m e)
    rows_under k e = (under_has k e, has_under k e)

  pub keys_under : (keys : List (Key × ℕ)) → ((k : Key) (place : ℕ) → IsPlaceOf keys k place ↔ OptionHasKey (slot_of (slice_get (held_in m) place)) k)
      → (k : Key) (e : List ℕ) → IsFiledUnder m.rows.items keys k e ↔ OptionHasKey (get (state_in m) e) k
  keys_under keys all k e =
      subst (λ o. IsFiledUnder m.rows.items keys k e ↔ OptionHasKey o k) (sym (get-state m rows_m e))
      (rows_under (λ k row. OptionHasKey (slot_of row) k) (λ k h. h) keys all k e)

  pub numbers_under : (numbers : List (ℕ × ℕ)) → NumbersAll numbers m → (n : ℕ) (e : List ℕ) → IsFiledUnder m.rows.items numbers n e ↔ (get (numbers_in m) e ≡ Some n)
  numbers_under numbers all n e =
      subst (λ o. IsFiledUnder m.rows.items numbers n e ↔ (o ≡ Some n)) (sym (get-number m rows_m e))
      (rows_under (λ n row. number_of row ≡ Some n) (λ n h. no_number n h) numbers all n e)
