-- Tables that are copied and compared, row by row.
use Rattle.std.proofs.Common.{◌≡◌, ◌⊎◌, ◌↔◌, inl, inr, ℕ, zero, suc, ◌+◌, ◌<◌, ◌≤◌, arith, drop, length, get_or, true, false, cond, map, slice_get, List, [], ◌∷◌, Option, Some, None, refl, sym, ap, ◌∙◌, subst}
use Rattle.std.specs.Prelude.{Contains, bytes_eq, IsSome, option_map, unwrap_or}
use Rattle.std.proofs.lemmas.List.{at_drop_all, at_drop_more, length-map}
use Rattle.std.proofs.lemmas.Option.{slice_get_past}
use Rattle.lw_recent.specs.Recent.{IsUnder}
use Rattle.std.specs.FinMap.{get}
use Rattle.lw_reg.proofs.Members.{first_there, more_there, none_there, there_or_first}
use Rattle.lw_table.specs.inner.Copying.{Copies, KeysAll, MayBeCopied, CopiesRow, NumbersAll}
use Rattle.lw_table.specs.inner.Due.{OtherDue}
use Rattle.lw_table.specs.inner.Filed.{HasKeys, HasNumber, IsDueAs, NumbersRow, OtherKeys}
use Rattle.lw_table.specs.Table.{slot_of, number_of, TableContent, IsTable}
use Rattle.lw_table.specs.inner.Moves.{PutsRow}
use Rattle.lw_table.specs.Rows.{IsRows, held_in, name_of, place_of, table_in}
use Rattle.lw_table.specs.inner.Rows.{row_at, row_from, spot_of}
use Rattle.lw_table.specs.declared.filed.Filed.{Filed}
use Rattle.lw_table.specs.declared.key.Key.{Key}
use Rattle.lw_table.specs.declared.row.Row.{Row}
use Rattle.lw_table.specs.declared.rows.NamedRow.{NamedRow}
use Rattle.lw_table.specs.declared.rows.Rows.{Rows}
use Rattle.lw_table.proofs.RowLemmas.{no_place, same_or_not, some_same, there_of}
use Rattle.lw_table.proofs.TableLemmas.{AreRows, due_as, keys_put, numbers_put, filed_at, get-state, get-number, nothing_filed, rows_of, same_due, same_table, table_of}

-- ---- a copy that is made row by row
-- the row of each endpoint is copied, but for those that are left
abbrev pub CopiedBut : Rows → Rows → List (List ℕ) → Type 0
CopiedBut original rows left = (e : List ℕ) → (row_at rows e ≡ row_at original e) ⊎ ((row_at rows e ≡ None) × Contains left e)

-- each endpoint is due and kept as its row is
abbrev pub AllDue : Filed → Rows → Type 0
AllDue filed rows = (e : List ℕ) → IsDueAs filed e (row_at rows e)

-- the endpoints of rows
abbrev pub names_in : List NamedRow → List (List ℕ)
names_in rows = map name_of rows

pub named_there : (rows : List NamedRow) (place : ℕ) (named : NamedRow) (e : List ℕ) → slice_get rows place ≡ Some named → name_of named ≡ e → Contains (names_in rows) e
named_there [] place named e h is = absurd (let bad : None ≡ Some named = h in cc)
named_there (x ∷ xs) zero named e h is = first_there (name_of x) (names_in xs) e (sym (ap name_of (some_same x named h) ∙ is))
named_there (x ∷ xs) (suc place) named e h is = more_there (name_of x) (names_in xs) e (named_there xs place named e h is)

-- those that are left
pub names_step : (rows : List NamedRow) (i : ℕ) (x : NamedRow) → i < length rows → x ≡ get_or rows i x → names_in (drop i rows) ≡ name_of x ∷ names_in (drop (i + 1) rows)
names_step rows i x within is = ap names_in (at_drop_more (λ l. l) rows i x within ∙ ap (λ y. y ∷ drop (i + 1) rows) (sym is))

pub names_none : (rows : List NamedRow) (i : ℕ) → length rows ≤ i → names_in (drop i rows) ≡ []
names_none rows i past = ap names_in (at_drop_all (λ l. l) rows i past)

-- ---- what is filed of the places of a copy
held_none : (m : Rows) → slice_get (held_in m) (length m.rows.items) ≡ None
held_none m = slice_get_past (held_in m) (length m.rows.items) (omega (arith, length-map m.rows.items (λ (named : NamedRow). named.row)))

-- the place where the next row is to come
pub numbers_past : (numbers : List (ℕ × ℕ)) (m : Rows) → NumbersAll numbers m → HasNumber numbers (length m.rows.items) None
numbers_past numbers m all n = subst (λ (o : Option Row). IsUnder numbers n (length m.rows.items) ↔ (number_of o ≡ Some n)) (held_none m) (all n (length m.rows.items))

pub keys_past : (keys : List (Key × ℕ)) (m : Rows) → KeysAll keys m → HasKeys keys (length m.rows.items) None
keys_past keys m all = subst (λ (o : Option Row). HasKeys keys (length m.rows.items) (slot_of o)) (held_none m) (all (length m.rows.items))

module _ (m n : Rows) (e : List ℕ) (row : Row) (rows : IsRows m) (none : row_at m e ≡ None) (put : PutsRow e row m n) where
  spot_is : spot_of m e ≡ length m.rows.items
  spot_is = ap (λ o. unwrap_or o (length m.rows.items)) (no_place m rows e none)

  pub numbers_copied : (old new : List (ℕ × ℕ)) → NumbersAll old m → NumbersRow (length m.rows.items) (Some row) old new → NumbersAll new n
  numbers_copied old new all numbers = numbers_put old new m n e all row put (subst (λ p. NumbersRow p (Some row) old new) (sym spot_is) numbers)

  pub keys_copied : (old new : List (Key × ℕ)) → KeysAll old m → OtherKeys (length m.rows.items) old new → HasKeys new (length m.rows.items) (Some row.slot) → KeysAll new n
  keys_copied old new all others here = keys_put old new m n e (subst (λ p. OtherKeys p old new) (sym spot_is) others) all row put (subst (λ p. HasKeys new p (Some row.slot)) (sym spot_is) here)

module _ (original : Rows) where
  -- at first no row is copied, and each endpoint that has one is left
  pub none_copied : IsRows original → (rows : Rows) → ((e : List ℕ) → row_at rows e ≡ None) → CopiedBut original rows (names_in original.rows.items)
  none_copied are rows none e = go (place_of original e) refl
    where
      go : (o : Option ℕ) → place_of original e ≡ o → (row_at rows e ≡ row_at original e) ⊎ ((row_at rows e ≡ None) × Contains (names_in original.rows.items) e)
      go None is = inl (none e ∙ sym (ap (row_from original.rows.items) is))
      go (Some place) is = let there = there_of original are e place is in inr (none e, named_there original.rows.items place there.0 e there.1 there.2)

  module _ (rows more : Rows) (x : List ℕ) (copied : CopiesRow x original rows more) where
    here : (e : List ℕ) → bytes_eq x e ≡ true → row_at more e ≡ row_at original x
    here e t = copied.at e ∙ ap (λ b. cond b (row_at original x) (row_at rows e)) t

    apart : (e : List ℕ) → bytes_eq x e ≡ false → row_at more e ≡ row_at rows e
    apart e f = copied.at e ∙ ap (λ b. cond b (row_at original x) (row_at rows e)) f

    pub row_copied : (rest : List (List ℕ)) → CopiedBut original rows (x ∷ rest) → CopiedBut original more rest
    row_copied rest but e = same_or_not x e
        (λ t same. inl (here e t ∙ ap (row_at original) same))
        (λ f other. elim (but e) [ inl is ↦ inl (apart e f ∙ is) | inr left ↦ inr (apart e f ∙ left.0, elim (there_or_first x rest e left.1) [ inl same ↦ absurd (other (sym same)) | inr there ↦ there ]) ])

    pub copy_due : (old new : Filed) → OtherDue x old.due new.due → IsDueAs new x (row_at original x) → AllDue old rows → AllDue new more
    copy_due old new others is each e = same_or_not x e
        (λ t same. subst (IsDueAs new e) (sym (here e t)) (subst (λ k. IsDueAs new k (row_at original x)) same is))
        (λ f other. subst (IsDueAs new e) (sym (apart e f)) (same_due old new x others e (row_at rows e) (λ same. other (sym same)) (each e)))

  -- the first of those that are left
  pub first_left : (rows : Rows) (x : List ℕ) (rest : List (List ℕ)) → CopiedBut original rows (x ∷ rest) → MayBeCopied x original rows
  first_left rows x rest but = elim (but x) [ inl is ↦ inl is | inr left ↦ inr left.0 ]

  -- where none is left, each row is copied
  pub all_copied : (rows : Rows) (left : List (List ℕ)) → left ≡ [] → CopiedBut original rows left → (e : List ℕ) → row_at rows e ≡ row_at original e
  all_copied rows left none but e = elim (but e) [ inl is ↦ is | inr l ↦ none_there e (subst (λ (es : List (List ℕ)). Contains es e) none l.1) ]

-- the row is there already, or there is none to be copied
pub copied_before : (original rows : Rows) (x : List ℕ) → IsRows rows → row_at rows x ≡ row_at original x → CopiesRow x original rows rows
copied_before original rows x are is = record {
  at = λ e. same_or_not x e
      (λ t same. sym (ap (λ b. cond b (row_at original x) (row_at rows e)) t ∙ sym is ∙ ap (row_at rows) same))
      (λ f other. sym (ap (λ b. cond b (row_at original x) (row_at rows e)) f));
  rows = are;
}

-- of what may be copied, a row that is there is the original's, and so is one that is absent there
pub there_is_copied : (original rows : Rows) (x : List ℕ) → MayBeCopied x original rows → IsSome (row_at rows x) → row_at rows x ≡ row_at original x
there_is_copied original rows x may some = elim may [ inl is ↦ is | inr none ↦ absurd (let bad : false ≡ true = subst IsSome none some in cc) ]

pub absent_is_copied : (original rows : Rows) (x : List ℕ) → MayBeCopied x original rows → row_at original x ≡ None → row_at rows x ≡ row_at original x
absent_is_copied original rows x may absent = elim may [ inl is ↦ is | inr none ↦ none ∙ sym absent ]

-- rows that are the same are under the same numbers
pub same_rows : (m n : Rows) (change : ℕ) → ((e : List ℕ) → row_at n e ≡ row_at m e) → AreRows m change → AreRows n change
same_rows m n change same rows = record {
  within = λ e k h. rows.within e k (ap number_of (sym (same e)) ∙ h);
  alone = λ d e k below h j. rows.alone d e k below (ap number_of (sym (same d)) ∙ h) (ap number_of (sym (same e)) ∙ j);
  last = rows.last;
  endpoints = λ e h. rows.endpoints e (subst (λ o. IsSome (slot_of o)) (same e) h);
}

-- at first nothing is filed, and there is no row
pub nothing_copied : (filed : Filed) (rows : Rows) → IsRows rows → filed.keys ≡ [] → filed.numbers ≡ [] → filed.due ≡ [] → ((e : List ℕ) → row_at rows e ≡ None) → AllDue filed rows
nothing_copied filed rows are no_keys no_numbers no_due none e =
    due_as filed e (spot_of rows e) (row_at rows e) (filed_at filed rows are 0 (nothing_filed filed.keys filed.numbers filed.due rows are no_keys no_numbers no_due none) e)

-- the table of a copy
module _ (original rows : Rows) (filed : Filed) (copies : Copies original filed rows) (was : Filed) (change : ℕ) (are : IsRows original) (is : IsTable was.keys was.numbers was.due (held_in original) (table_in original change)) where
  pub copied_table : IsTable filed.keys filed.numbers filed.due (held_in rows) (table_in rows change)
  copied_table = table_of filed rows copies.are_rows change copies.each_due copies.keyed copies.numbered (same_rows original rows change copies.same (rows_of was original are change is))

  pub copied_content : table_in rows change ≡ table_in original change
  copied_content = same_table original rows are copies.are_rows change copies.same

-- ---- rows that are compared
-- a row is its slot and its number
pub row_is : (o p : Option Row) → slot_of o ≡ slot_of p → number_of o ≡ number_of p → o ≡ p
row_is None None s n = refl
row_is None (Some q) s n = absurd cc
row_is (Some r) None s n = absurd cc
row_is (Some r) (Some q) s n =
    let slot : r.slot ≡ q.slot = cc in
    let number : r.number ≡ q.number = cc in
    ap (λ (w : Row). Some w) (λ i. record { slot = slot i; number = number i })

-- the rows of tables that are the same
pub rows_alike : (m n : Rows) → IsRows m → IsRows n → (a b : ℕ) → table_in m a ≡ table_in n b → (e : List ℕ) → row_at m e ≡ row_at n e
rows_alike m n rows_m rows_n a b same e =
    row_is (row_at m e) (row_at n e)
    (sym (get-state m rows_m e) ∙ ap (λ (t : TableContent). get t.state e) same ∙ get-state n rows_n e)
    (sym (get-number m rows_m e) ∙ ap (λ (t : TableContent). get t.count.numbers e) same ∙ get-number n rows_n e)

-- each of the rows is the same among the others
abbrev pub AllAmong : Rows → Rows → Type 0
AllAmong rows others = (place : ℕ) (named : NamedRow) → slice_get rows.rows.items place ≡ Some named → row_at rows (name_of named) ≡ row_at others (name_of named)

-- Where each of the rows of both is the same among the others, each endpoint has the same.
pub both_same : (m n : Rows) → IsRows m → IsRows n → AllAmong m n → AllAmong n m → (e : List ℕ) → row_at m e ≡ row_at n e
both_same m n rows_m rows_n left right e = go (place_of m e) (place_of n e) refl refl
  where
    go : (o p : Option ℕ) → place_of m e ≡ o → place_of n e ≡ p → row_at m e ≡ row_at n e
    go (Some place) p h k = let there = there_of m rows_m e place h in subst (λ x. row_at m x ≡ row_at n x) there.2 (left place there.0 there.1)
    go None (Some place) h k = let there = there_of n rows_n e place k in subst (λ x. row_at m x ≡ row_at n x) there.2 (sym (right place there.0 there.1))
    go None None h k = ap (row_from m.rows.items) h ∙ sym (ap (row_from n.rows.items) k)

-- tables whose rows and changes are the same
pub same_content : (m n : Rows) → IsRows m → IsRows n → (a b : ℕ) → a ≡ b → AllAmong m n → AllAmong n m → table_in m a ≡ table_in n b
same_content m n rows_m rows_n a b same left right = same_table n m rows_n rows_m a (both_same m n rows_m rows_n left right) ∙ ap (table_in n) same

-- where a list has nothing at the place, its image has nothing there
pub absent_there : {A B : Type 0} (f : A → B) (o : Option A) (p : Option B) → option_map f o ≡ p → ¬ IsSome o → p ≡ None
absent_there f None p is none = sym is
absent_there f (Some a) p is none = absurd (none refl)
