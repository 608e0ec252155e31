-- What the rows hold, endpoint by endpoint, and how that changes.
use Rattle.std.proofs.Common.{◌≡◌, ◌≢◌, ℕ, zero, suc, ◌<◌, ◌⊎◌, inl, inr, Bool, true, false, cond, List, [], ◌∷◌, ◌++◌, length, Option, None, Some, refl, sym, ap, ◌∙◌, subst, arith, slice_get, get_or, set}
use Rattle.std.specs.Prelude.{String, bytes_eq, map, unwrap_or}
use Rattle.std.specs.Option.{IfSome, IsSomeAnd, option_map}
use Rattle.std.specs.BTreeMap.{BTreeMap, IsOrdered, get_by_text}
use Rattle.std.specs.BTreeMap as tree
use Rattle.std.specs.Cmp.Lexicographic.{bytes_decides}
use Rattle.std.specs.FinMap.{get, get-from_entries, find}
use Rattle.std.specs.Ordering.{is_eq, eq_by_cmp, nat_cmp}
use Rattle.std.specs.String.{string_cmp}
use Rattle.std.proofs.lemmas.Bool.Decides.{nat_tests}
use Rattle.std.proofs.lemmas.Cmp.{eq_by_cmp_equiv}
use Rattle.std.proofs.lemmas.List.{length-append}
use Rattle.std.proofs.lemmas.Map.Views.{tells_apart}
use Rattle.std.proofs.lemmas.Option.{slice_get_past, slice_get-map, slice_get_read, slice_get_within}
use Rattle.lw_stamp.specs.TextOrder.{text_cmp}
use Rattle.lw_reg.specs.OrderLaws.{text_order}
use Rattle.lw_table.specs.Table.{number_of}
use Rattle.lw_table.specs.inner.Moves.{FilesEither, FilesFirst, FilesOther, PutsRow, SameRows}
use Rattle.lw_table.specs.Rows.{IsRows, each_in, end_of, first_or, held_in, is_named, name_of, place_of}
use Rattle.lw_table.specs.inner.Rows.{row_at, row_from, spot_of}
use Rattle.lw_table.specs.declared.row.Row.{Row}
use Rattle.lw_table.specs.declared.rows.NamedRow.{NamedRow}
use Rattle.lw_table.specs.declared.rows.Rows.{Rows}

-- ---- texts and numbers that are one, or are not
pub same_or_not : {G : Type 0} (a b : List ℕ) → ((bytes_eq a b ≡ true) → a ≡ b → G) → ((bytes_eq a b ≡ false) → a ≢ b → G) → G
same_or_not {G} a b same other = go (bytes_eq a b) refl
  where
    go : (r : Bool) → bytes_eq a b ≡ r → G
    go true h = same h ((bytes_decides a b).0 h)
    go false h = other h (λ e. let t : bytes_eq a b ≡ true = (bytes_decides a b).1 e in cc)

number_tied : (a b : ℕ) → is_eq (nat_cmp a b) ≡ true → a ≡ b
number_tied a b h = grind (arith, nat_tests)

number_itself : (a : ℕ) → is_eq (nat_cmp a a) ≡ true
number_itself a = grind (arith, nat_tests)

pub number_or_not : {G : Type 0} (a b : ℕ) → (is_eq (nat_cmp a b) ≡ true → a ≡ b → G) → (is_eq (nat_cmp a b) ≡ false → a ≢ b → G) → G
number_or_not {G} a b same other = go (is_eq (nat_cmp a b)) refl
  where
    go : (r : Bool) → is_eq (nat_cmp a b) ≡ r → G
    go true h = same h (number_tied a b h)
    go false h = other h (λ e. let t : is_eq (nat_cmp a b) ≡ true = subst (λ k. is_eq (nat_cmp a k) ≡ true) e (number_itself a) in cc)

-- ---- places of a list
module _ {X : Type 0} where
  pub some_same : (x y : X) → Some x ≡ Some y → x ≡ y
  some_same x y h = ap of h
    where
      of : Option X → X
      of None = x
      of (Some z) = z

  below_end : (xs ys : List X) (i : ℕ) → i < length xs → slice_get (xs ++ ys) i ≡ slice_get xs i
  below_end [] ys i h = absurd (omega arith)
  below_end (x ∷ xs) ys zero h = refl
  below_end (x ∷ xs) ys (suc i) h = below_end xs ys i (omega arith)

  at_end : (xs : List X) (x : X) → slice_get (xs ++ x ∷ []) (length xs) ≡ Some x
  at_end [] x = refl
  at_end (y ∷ xs) x = at_end xs x

  -- what stands in a longer list stood there, or is the last
  old_or_last : (xs : List X) (x : X) (i : ℕ) (y : X) → slice_get (xs ++ x ∷ []) i ≡ Some y → (slice_get xs i ≡ Some y) ⊎ ((i ≡ length xs) × (x ≡ y))
  old_or_last [] x zero y h = inr (refl, some_same x y h)
  old_or_last [] x (suc i) y h = absurd (let bad : None ≡ Some y = h in cc)
  old_or_last (z ∷ xs) x zero y h = inl h
  old_or_last (z ∷ xs) x (suc i) y h = elim (old_or_last xs x i y h) [
    | inl there ↦ inl there
    | inr last ↦ inr (ap suc last.0, last.1)
  ]

  not_at_end : (xs : List X) (x : X) (i : ℕ) → i ≢ length xs → slice_get (xs ++ x ∷ []) i ≡ slice_get xs i
  not_at_end [] x zero other = absurd (other refl)
  not_at_end [] x (suc i) other = refl
  not_at_end (y ∷ xs) x zero other = refl
  not_at_end (y ∷ xs) x (suc i) other = not_at_end xs x i (λ same. other (ap suc same))

  written : (xs : List X) (i : ℕ) (y : X) → i < length xs → slice_get (set xs i y) i ≡ Some y
  written [] i y h = absurd (omega arith)
  written (x ∷ xs) zero y h = refl
  written (x ∷ xs) (suc i) y h = written xs i y (omega arith)

  not_written : (xs : List X) (i k : ℕ) (y : X) → k ≢ i → slice_get (set xs i y) k ≡ slice_get xs k
  not_written [] i k y other = refl
  not_written (x ∷ xs) zero zero y other = absurd (other refl)
  not_written (x ∷ xs) zero (suc k) y other = refl
  not_written (x ∷ xs) (suc i) zero y other = refl
  not_written (x ∷ xs) (suc i) (suc k) y other = not_written xs i k y (λ same. other (ap suc same))

  same_length : (xs : List X) (i : ℕ) (y : X) → length (set xs i y) ≡ length xs
  same_length [] i y = refl
  same_length (x ∷ xs) zero y = refl
  same_length (x ∷ xs) (suc i) y = ap suc (same_length xs i y)

  some_there : (P : X → Type 0) (o : Option X) → IsSomeAnd o P → (x : X) × (o ≡ Some x) × P x
  some_there P None h = absurd h
  some_there P (Some x) h = (x, refl, h)

  there_some : (P : X → Type 0) (o : Option X) (x : X) → o ≡ Some x → P x → IsSomeAnd o P
  there_some P o x is h = subst (λ o. IsSomeAnd o P) (sym is) h

-- ---- the row at the place of an endpoint
-- it has that endpoint
pub there_of : (m : Rows) → IsRows m → (e : List ℕ) (place : ℕ) → place_of m e ≡ Some place → (named : NamedRow) × (slice_get m.rows.items place ≡ Some named) × (name_of named ≡ e)
there_of m rows e place is = of_first (tree.get nat_cmp m.firsts (end_of e)) is
  where
    Found : Type 0
    Found = (named : NamedRow) × (slice_get m.rows.items place ≡ Some named) × (name_of named ≡ e)

    of_other : get_by_text m.others e ≡ Some place → Found
    of_other h = some_there (λ (named : NamedRow). name_of named ≡ e) (slice_get m.rows.items place) (rows.others_named e place h)

    of_own : (q : ℕ) (named : NamedRow) → slice_get m.rows.items q ≡ Some named → (b : Bool) → bytes_eq (name_of named) e ≡ b → cond b (Some q) (get_by_text m.others e) ≡ Some place → Found
    of_own q named there true same h = (named, ap (slice_get m.rows.items) (sym (some_same q place h)) ∙ there, (bytes_decides (name_of named) e).0 same)
    of_own q named there false same h = of_other h

    of_row : (q : ℕ) (o : Option NamedRow) → slice_get m.rows.items q ≡ o → cond (is_named o e) (Some q) (get_by_text m.others e) ≡ Some place → Found
    of_row q None there h = of_other h
    of_row q (Some named) there h = of_own q named there (bytes_eq (name_of named) e) refl h

    of_first : (o : Option ℕ) → first_or m.rows.items e o (get_by_text m.others e) ≡ Some place → Found
    of_first None h = of_other h
    of_first (Some q) h = of_row q (slice_get m.rows.items q) refl h

pub place_within : (m : Rows) → IsRows m → (e : List ℕ) (place : ℕ) → place_of m e ≡ Some place → place < length m.rows.items
place_within m rows e place is = let there = there_of m rows e place is in slice_get_within m.rows.items place there.0 there.1

pub others_within : (m : Rows) → IsRows m → (e : List ℕ) → IfSome (get_by_text m.others e) (λ place. place < length m.rows.items)
others_within m rows e = go (get_by_text m.others e) refl
  where
    go : (o : Option ℕ) → get_by_text m.others e ≡ o → IfSome o (λ place. place < length m.rows.items)
    go None is = tt
    go (Some place) is =
        let there = some_there (λ (named : NamedRow). name_of named ≡ e) (slice_get m.rows.items place) (rows.others_named e place is) in
        slice_get_within m.rows.items place there.0 there.1

pub at_place : (m : Rows) → IsRows m → (e : List ℕ) (place : ℕ) (named : NamedRow) → place_of m e ≡ Some place → named ≡ get_or m.rows.items place named → slice_get m.rows.items place ≡ Some named
at_place m rows e place named is at = slice_get_read m.rows.items (length m.rows.items) place named refl (place_within m rows e place is) at

pub row_there : (m : Rows) (e : List ℕ) (place : ℕ) (named : NamedRow) → place_of m e ≡ Some place → slice_get m.rows.items place ≡ Some named → row_at m e ≡ Some named.row
row_there m e place named is there = ap (row_from m.rows.items) is ∙ ap (option_map (λ (x : NamedRow). x.row)) there

-- ---- the rows at their places
abbrev row_in : NamedRow → Row
row_in named = named.row

-- at the place of an endpoint its row, and none where the next row is to come
pub held_at : (m : Rows) → (e : List ℕ) → slice_get (held_in m) (spot_of m e) ≡ row_at m e
held_at m e = go (place_of m e)
  where
    go : (o : Option ℕ) → slice_get (held_in m) (unwrap_or o (length m.rows.items)) ≡ row_from m.rows.items o
    go None = slice_get-map row_in m.rows.items (length m.rows.items) ∙ ap (option_map row_in) (slice_get_past m.rows.items (length m.rows.items) (omega arith))
    go (Some place) = slice_get-map row_in m.rows.items place

-- what is held at a place is the row there
pub held_there : (m : Rows) (place : ℕ) (named : NamedRow) → slice_get m.rows.items place ≡ Some named → slice_get (held_in m) place ≡ Some named.row
held_there m place named there = slice_get-map row_in m.rows.items place ∙ ap (option_map row_in) there

-- a number that is held is that of a row
pub held_row : (m : Rows) (place n : ℕ) → number_of (slice_get (held_in m) place) ≡ Some n → (named : NamedRow) × (slice_get m.rows.items place ≡ Some named) × (named.row.number ≡ n)
held_row m place n h = go (slice_get m.rows.items place) refl (ap number_of (sym (slice_get-map row_in m.rows.items place)) ∙ h)
  where
    go : (o : Option NamedRow) → slice_get m.rows.items place ≡ o → number_of (option_map row_in o) ≡ Some n → (named : NamedRow) × (slice_get m.rows.items place ≡ Some named) × (named.row.number ≡ n)
    go None is h = absurd (let bad : None ≡ Some n = h in cc)
    go (Some named) is h = (named, is, some_same named.row.number n h)

-- no row, no place
pub no_place : (m : Rows) → IsRows m → (e : List ℕ) → row_at m e ≡ None → place_of m e ≡ None
no_place m rows e none = go (place_of m e) refl
  where
    go : (o : Option ℕ) → place_of m e ≡ o → o ≡ None
    go None is = refl
    go (Some place) is =
        let there = there_of m rows e place is in
        absurd (let bad : Some there.0.row ≡ None = sym (row_there m e place there.0 is there.1) ∙ none in cc)

-- ---- what is found among the rows
module _ {X : Type 0} (f : Row → X) (e : List ℕ) where
  abbrev entries : List NamedRow → List (List ℕ × X)
  entries rows = map (λ named. (name_of named, f named.row)) rows

  -- the first with the name, or none
  abbrev Finds : List NamedRow → Type 0
  Finds rows =
      ((place : ℕ) × (named : NamedRow) × (slice_get rows place ≡ Some named) × (name_of named ≡ e) × (find text_cmp e (entries rows) ≡ Some (f named.row)))
      ⊎ (((place : ℕ) (named : NamedRow) → slice_get rows place ≡ Some named → name_of named ≢ e) × (find text_cmp e (entries rows) ≡ None))

  finds : (rows : List NamedRow) → Finds rows
  finds [] = inr (λ place named h. absurd (let bad : None ≡ Some named = h in cc), refl)
  finds (x ∷ xs) = go (eq_by_cmp text_cmp e (name_of x)) refl (finds xs)
    where
      passed : (b : Bool) → eq_by_cmp text_cmp e (name_of x) ≡ b → find text_cmp e (entries (x ∷ xs)) ≡ cond b (Some (f x.row)) (find text_cmp e (entries xs))
      passed b h = ap (λ t. cond t (Some (f x.row)) (find text_cmp e (entries xs))) h

      another : eq_by_cmp text_cmp e (name_of x) ≡ false → name_of x ≢ e
      another h same = let t : eq_by_cmp text_cmp e (name_of x) ≡ true = subst (λ k. eq_by_cmp text_cmp e k ≡ true) (sym same) ((eq_by_cmp_equiv text_order.total).refl e) in absurd cc

      none_here : eq_by_cmp text_cmp e (name_of x) ≡ false → ((place : ℕ) (named : NamedRow) → slice_get xs place ≡ Some named → name_of named ≢ e)
          → (place : ℕ) (named : NamedRow) → slice_get (x ∷ xs) place ≡ Some named → name_of named ≢ e
      none_here h none zero named there = subst (λ (y : NamedRow). name_of y ≢ e) (some_same x named there) (another h)
      none_here h none (suc place) named there = none place named there

      go : (b : Bool) → eq_by_cmp text_cmp e (name_of x) ≡ b → Finds xs → Finds (x ∷ xs)
      go true h rest = inl (zero, x, refl, sym (tells_apart text_order.exact e (name_of x) h), passed true h)
      go false h rest = elim rest [
        | inl r ↦ inl (suc r.0, r.1, r.2, r.3, passed false h ∙ r.4)
        | inr r ↦ inr (none_here h r.0, passed false h ∙ r.1)
      ]

-- what the rows have at an endpoint
pub get-each_in : {X : Type 0} (f : Row → X) (m : Rows) → IsRows m → (e : List ℕ) → get (each_in f m) e ≡ option_map f (row_at m e)
get-each_in f m rows e = get-from_entries text_order.total (entries f e m.rows.items) e ∙ elim (finds f e m.rows.items) [
  | inl r ↦ r.4 ∙ sym (ap (option_map f) (row_there m e r.0 r.1 (ap (place_of m) (sym r.3) ∙ rows.found r.0 r.1 r.2) r.2))
  | inr r ↦ r.1 ∙ sym (ap (option_map f) (ap (row_from m.rows.items) (none r.0)))
]
  where
    none : ((place : ℕ) (named : NamedRow) → slice_get m.rows.items place ≡ Some named → name_of named ≢ e) → place_of m e ≡ None
    none passed = go (place_of m e) refl
      where
        go : (o : Option ℕ) → place_of m e ≡ o → o ≡ None
        go None is = refl
        go (Some place) is = let there = there_of m rows e place is in absurd (passed place there.0 there.1 there.2)

-- ---- a row that is put behind the others
module _ (m n : Rows) (e0 : List ℕ) (w : NamedRow) (rows : IsRows m) (named : name_of w ≡ e0) (absent : place_of m e0 ≡ None)
    (items : n.rows.items ≡ m.rows.items ++ w ∷ []) (firsts_rise : IsOrdered nat_cmp n.firsts) (others_rise : IsOrdered string_cmp n.others) (files : FilesEither e0 (length m.rows.items) m n) where
  abbrev last : ℕ
  last = length m.rows.items

  abbrev longer : List NamedRow
  longer = m.rows.items ++ w ∷ []

  longer_by_one : length n.rows.items ≡ suc last
  longer_by_one = ap length items ∙ omega (arith, length-append m.rows.items (w ∷ []))

  -- of a first that is filed, the row stands where it stood
  old_first : (e : List ℕ) (other o : Option ℕ) → IfSome o (λ place. place < last) → first_or longer e o other ≡ first_or m.rows.items e o other
  old_first e other None within = refl
  old_first e other (Some place) within = ap (λ r. cond (is_named r e) (Some place) other) (below_end m.rows.items (w ∷ []) place within)

  first_within : (end : ℕ) → IfSome (tree.get nat_cmp m.firsts end) (λ place. place < last)
  first_within end = go (tree.get nat_cmp m.firsts end) refl
    where
      go : (o : Option ℕ) → tree.get nat_cmp m.firsts end ≡ o → IfSome o (λ place. place < last)
      go None is = tt
      go (Some place) is = rows.firsts_within end place is

  own_first : (e : List ℕ) (other : Option ℕ) → first_or longer e (Some last) other ≡ cond (bytes_eq e0 e) (Some last) other
  own_first e other = ap (λ r. cond (is_named r e) (Some last) other) (at_end m.rows.items w) ∙ ap (λ k. cond (bytes_eq k e) (Some last) other) named

  place_first : FilesFirst e0 last m.firsts n.firsts × (n.others ≡ m.others) → (e : List ℕ) → place_of n e ≡ cond (bytes_eq e0 e) (Some last) (place_of m e)
  place_first filed e =
      (λ i. first_or (items i) e (filed.0.at (end_of e) i) (get_by_text (filed.1 i) e))
      ∙ number_or_not (end_of e0) (end_of e)
      (λ t tied. ap (λ b. first_or longer e (cond b (Some last) (tree.get nat_cmp m.firsts (end_of e))) (get_by_text m.others e)) t
      ∙ own_first e (get_by_text m.others e)
      ∙ ap (λ (o : Option ℕ). cond (bytes_eq e0 e) (Some last) (first_or m.rows.items e o (get_by_text m.others e))) (sym (ap (tree.get nat_cmp m.firsts) (sym tied) ∙ filed.0.free)))
      (λ t apart. ap (λ b. first_or longer e (cond b (Some last) (tree.get nat_cmp m.firsts (end_of e))) (get_by_text m.others e)) t
      ∙ old_first e (get_by_text m.others e) (tree.get nat_cmp m.firsts (end_of e)) (first_within (end_of e))
      ∙ ap (λ b. cond b (Some last) (place_of m e)) (sym (not_own apart)))
    where
      not_own : end_of e0 ≢ end_of e → bytes_eq e0 e ≡ false
      not_own apart = same_or_not e0 e (λ t same. absurd (apart (ap end_of same))) (λ t other. t)

  place_other : FilesOther e0 last m.others n.others × (n.firsts ≡ m.firsts) → (e : List ℕ) → place_of n e ≡ cond (bytes_eq e0 e) (Some last) (place_of m e)
  place_other filed e =
      (λ i. first_or (items i) e (tree.get nat_cmp (filed.1 i) (end_of e)) (filed.0.at e i))
      ∙ old_first e (cond (bytes_eq e0 e) (Some last) (get_by_text m.others e)) (tree.get nat_cmp m.firsts (end_of e)) (first_within (end_of e))
      ∙ same_or_not e0 e
      (λ t same. ap (λ b. first_or m.rows.items e (tree.get nat_cmp m.firsts (end_of e)) (cond b (Some last) (get_by_text m.others e))) t
      ∙ passed (tree.get nat_cmp m.firsts (end_of e)) (subst (λ k. place_of m k ≡ None) same absent)
      ∙ ap (λ b. cond b (Some last) (place_of m e)) (sym t))
      (λ t other. ap (λ b. first_or m.rows.items e (tree.get nat_cmp m.firsts (end_of e)) (cond b (Some last) (get_by_text m.others e))) t
      ∙ ap (λ b. cond b (Some last) (place_of m e)) (sym t))
    where
      not_this : (b : Bool) (place : ℕ) → cond b (Some place) (get_by_text m.others e) ≡ None → cond b (Some place) (Some last) ≡ Some last
      not_this true place h = absurd (let bad : Some place ≡ None = h in cc)
      not_this false place h = refl

      passed : (o : Option ℕ) → first_or m.rows.items e o (get_by_text m.others e) ≡ None → first_or m.rows.items e o (Some last) ≡ Some last
      passed None h = refl
      passed (Some place) h = not_this (is_named (slice_get m.rows.items place) e) place h

  place_put : (e : List ℕ) → place_of n e ≡ cond (bytes_eq e0 e) (Some last) (place_of m e)
  place_put e = elim files [
    | inl filed ↦ place_first filed e
    | inr filed ↦ place_other filed e
  ]

  row_put : (e : List ℕ) → row_at n e ≡ cond (bytes_eq e0 e) (Some w.row) (row_at m e)
  row_put e =
      (λ i. row_from (items i) (place_put e i))
      ∙ same_or_not e0 e
      (λ t same. ap (λ b. row_from longer (cond b (Some last) (place_of m e))) t
      ∙ ap (option_map (λ (x : NamedRow). x.row)) (at_end m.rows.items w)
      ∙ ap (λ b. cond b (Some w.row) (row_at m e)) (sym t))
      (λ t other. ap (λ b. row_from longer (cond b (Some last) (place_of m e))) t
      ∙ stays (place_of m e) refl
      ∙ ap (λ b. cond b (Some w.row) (row_at m e)) (sym t))
    where
      stays : (o : Option ℕ) → place_of m e ≡ o → row_from longer o ≡ row_from m.rows.items o
      stays None is = refl
      stays (Some place) is = ap (option_map (λ (x : NamedRow). x.row)) (below_end m.rows.items (w ∷ []) place (place_within m rows e place is))

  within_put : (end place : ℕ) → tree.get nat_cmp n.firsts end ≡ Some place → place < length n.rows.items
  within_put end place h = subst (λ k. place < k) (sym longer_by_one) (elim files [
    | inl filed ↦ number_or_not (end_of e0) end
        (λ t tied. let is : last ≡ place = some_same last place (sym (filed.0.at end ∙ ap (λ b. cond b (Some last) (tree.get nat_cmp m.firsts end)) t) ∙ h) in omega arith)
        (λ t apart. let below : place < last = rows.firsts_within end place (sym (filed.0.at end ∙ ap (λ b. cond b (Some last) (tree.get nat_cmp m.firsts end)) t) ∙ h) in omega arith)
    | inr filed ↦ let below : place < last = rows.firsts_within end place (ap (λ (firsts : BTreeMap ℕ ℕ). tree.get nat_cmp firsts end) (sym filed.1) ∙ h) in omega arith
  ])

  abbrev Named : List NamedRow → List ℕ → ℕ → Type 0
  Named xs e place = IsSomeAnd (slice_get xs place) (λ (x : NamedRow). name_of x ≡ e)

  still_named : (e : List ℕ) (place : ℕ) → get_by_text m.others e ≡ Some place → Named longer e place
  still_named e place h =
      let there = some_there (λ (x : NamedRow). name_of x ≡ e) (slice_get m.rows.items place) (rows.others_named e place h) in
      there_some (λ (x : NamedRow). name_of x ≡ e) (slice_get longer place) there.0
      (below_end m.rows.items (w ∷ []) place (slice_get_within m.rows.items place there.0 there.1) ∙ there.1) there.2

  named_put : (e : List ℕ) (place : ℕ) → get_by_text n.others e ≡ Some place → Named n.rows.items e place
  named_put e place h = subst (λ xs. Named xs e place) (sym items) (elim files [
    | inl filed ↦ still_named e place (ap (λ (others : BTreeMap (String _) ℕ). get_by_text others e) (sym filed.1) ∙ h)
    | inr filed ↦ same_or_not e0 e
        (λ t same. let is : last ≡ place = some_same last place (sym (filed.0.at e ∙ ap (λ b. cond b (Some last) (get_by_text m.others e)) t) ∙ h) in
        there_some (λ (x : NamedRow). name_of x ≡ e) (slice_get longer place) w (ap (slice_get longer) (sym is) ∙ at_end m.rows.items w) (named ∙ same))
        (λ t other. still_named e place (sym (filed.0.at e ∙ ap (λ b. cond b (Some last) (get_by_text m.others e)) t) ∙ h))
  ])

  found_put : (place : ℕ) (x : NamedRow) → slice_get n.rows.items place ≡ Some x → place_of n (name_of x) ≡ Some place
  found_put place x h = place_put (name_of x) ∙ elim (old_or_last m.rows.items w place x (ap (λ xs. slice_get xs place) (sym items) ∙ h)) [
    | inl there ↦ same_or_not e0 (name_of x)
        (λ t same. absurd (let bad : Some place ≡ None = sym (rows.found place x there) ∙ ap (place_of m) (sym same) ∙ absent in cc))
        (λ t other. ap (λ b. cond b (Some last) (place_of m (name_of x))) t ∙ rows.found place x there)
    | inr new ↦ ap (λ b. cond b (Some last) (place_of m (name_of x))) ((bytes_decides e0 (name_of x)).1 (sym named ∙ ap name_of new.1)) ∙ ap Some (sym new.0)
  ]

  spot_is : spot_of m e0 ≡ last
  spot_is = ap (λ o. unwrap_or o last) absent

  pub row_is_put : PutsRow e0 w.row m n
  row_is_put = record {
    at = row_put;
    held_here = (λ i. slice_get (map row_in (items i)) (spot_is i)) ∙ slice_get-map row_in longer last ∙ ap (option_map row_in) (at_end m.rows.items w);
    held_apart = λ place other.
        ap (λ xs. slice_get (map row_in xs) place) items ∙ slice_get-map row_in longer place
        ∙ ap (option_map row_in) (not_at_end m.rows.items w place (λ same. other (same ∙ sym spot_is)))
        ∙ sym (slice_get-map row_in m.rows.items place);
    rows = record {
      firsts_rise = firsts_rise;
      others_rise = others_rise;
      firsts_within = within_put;
      others_named = named_put;
      found = found_put;
    };
  }

-- ---- a row that is written where it stands
module _ (m n : Rows) (e0 : List ℕ) (at : ℕ) (v : NamedRow) (r : Row) (rows : IsRows m) (is : place_of m e0 ≡ Some at) (there : slice_get m.rows.items at ≡ Some v)
    (items : n.rows.items ≡ set m.rows.items at (record v { row = r })) (firsts : n.firsts ≡ m.firsts) (others : n.others ≡ m.others) where
  abbrev new : NamedRow
  new = record v { row = r }

  within : at < length m.rows.items
  within = place_within m rows e0 at is

  own_name : name_of v ≡ e0
  own_name = let own = there_of m rows e0 at is in ap name_of (some_same v own.0 (sym there ∙ own.1)) ∙ own.2

  name_stays : (place : ℕ) (e : List ℕ) → is_named (slice_get (set m.rows.items at new) place) e ≡ is_named (slice_get m.rows.items place) e
  name_stays place e = number_or_not at place
      (λ t tied. ap (λ k. is_named (slice_get (set m.rows.items at new) k) e) (sym tied)
      ∙ ap (λ o. is_named o e) (written m.rows.items at new within)
      ∙ ap (λ o. is_named o e) (sym there)
      ∙ ap (λ k. is_named (slice_get m.rows.items k) e) tied)
      (λ t apart. ap (λ o. is_named o e) (not_written m.rows.items at place new (λ same. apart (sym same))))

  place_stays : (e : List ℕ) → place_of n e ≡ place_of m e
  place_stays e = (λ i. first_or (items i) e (tree.get nat_cmp (firsts i) (end_of e)) (get_by_text (others i) e)) ∙ go (tree.get nat_cmp m.firsts (end_of e))
    where
      go : (o : Option ℕ) → first_or (set m.rows.items at new) e o (get_by_text m.others e) ≡ first_or m.rows.items e o (get_by_text m.others e)
      go None = refl
      go (Some place) = ap (λ b. cond b (Some place) (get_by_text m.others e)) (name_stays place e)

  row_written : (e : List ℕ) → row_at n e ≡ cond (bytes_eq e0 e) (Some r) (row_at m e)
  row_written e =
      (λ i. row_from (items i) (place_stays e i))
      ∙ same_or_not e0 e
      (λ t same. ap (row_from (set m.rows.items at new)) (ap (place_of m) (sym same) ∙ is)
      ∙ ap (option_map (λ (x : NamedRow). x.row)) (written m.rows.items at new within)
      ∙ ap (λ b. cond b (Some r) (row_at m e)) (sym t))
      (λ t other. stays other (place_of m e) refl ∙ ap (λ b. cond b (Some r) (row_at m e)) (sym t))
    where
      elsewhere : e0 ≢ e → (place : ℕ) → place_of m e ≡ Some place → place ≢ at
      elsewhere other place is_there same =
          let own = there_of m rows e place is_there in
          other (sym own_name ∙ ap name_of (some_same v own.0 (sym there ∙ ap (slice_get m.rows.items) (sym same) ∙ own.1)) ∙ own.2)

      stays : e0 ≢ e → (o : Option ℕ) → place_of m e ≡ o → row_from (set m.rows.items at new) o ≡ row_from m.rows.items o
      stays other None is_there = refl
      stays other (Some place) is_there = ap (option_map (λ (x : NamedRow). x.row)) (not_written m.rows.items at place new (elsewhere other place is_there))

  named_written : (e : List ℕ) (place : ℕ) → get_by_text m.others e ≡ Some place → IsSomeAnd (slice_get (set m.rows.items at new) place) (λ (x : NamedRow). name_of x ≡ e)
  named_written e place h =
      let old = some_there (λ (x : NamedRow). name_of x ≡ e) (slice_get m.rows.items place) (rows.others_named e place h) in
      number_or_not at place
      (λ t tied. there_some (λ (x : NamedRow). name_of x ≡ e) (slice_get (set m.rows.items at new) place) new
      (ap (slice_get (set m.rows.items at new)) (sym tied) ∙ written m.rows.items at new within)
      (ap name_of (some_same v old.0 (sym there ∙ ap (slice_get m.rows.items) tied ∙ old.1)) ∙ old.2))
      (λ t apart. there_some (λ (x : NamedRow). name_of x ≡ e) (slice_get (set m.rows.items at new) place) old.0
      (not_written m.rows.items at place new (λ same. apart (sym same)) ∙ old.1) old.2)

  found_written : (place : ℕ) (x : NamedRow) → slice_get (set m.rows.items at new) place ≡ Some x → place_of m (name_of x) ≡ Some place
  found_written place x h = number_or_not at place
      (λ t tied.
      let one : new ≡ x = some_same new x (sym (written m.rows.items at new within) ∙ ap (slice_get (set m.rows.items at new)) tied ∙ h) in
      ap (place_of m) (sym (ap name_of one)) ∙ rows.found at v there ∙ ap Some tied)
      (λ t apart. rows.found place x (sym (not_written m.rows.items at place new (λ same. apart (sym same))) ∙ h))

  own_spot : spot_of m e0 ≡ at
  own_spot = ap (λ o. unwrap_or o (length m.rows.items)) is

  pub row_is_written : PutsRow e0 r m n
  row_is_written = record {
    at = row_written;
    held_here = (λ i. slice_get (map row_in (items i)) (own_spot i)) ∙ slice_get-map row_in (set m.rows.items at new) at
        ∙ ap (option_map row_in) (written m.rows.items at new within);
    held_apart = λ place other.
        ap (λ xs. slice_get (map row_in xs) place) items ∙ slice_get-map row_in (set m.rows.items at new) place
        ∙ ap (option_map row_in) (not_written m.rows.items at place new (λ same. other (same ∙ sym own_spot)))
        ∙ sym (slice_get-map row_in m.rows.items place);
    rows = record {
      firsts_rise = subst (λ (trees : BTreeMap ℕ ℕ). IsOrdered nat_cmp trees) (sym firsts) rows.firsts_rise;
      others_rise = subst (λ (trees : BTreeMap (String _) ℕ). IsOrdered string_cmp trees) (sym others) rows.others_rise;
      firsts_within = λ end place h.
          let old : place < length m.rows.items = rows.firsts_within end place (ap (λ (trees : BTreeMap ℕ ℕ). tree.get nat_cmp trees end) (sym firsts) ∙ h) in
          let same : length n.rows.items ≡ length m.rows.items = ap length items ∙ same_length m.rows.items at new in
          omega arith;
      others_named = λ e place h. subst (λ xs. IsSomeAnd (slice_get xs place) (λ (x : NamedRow). name_of x ≡ e)) (sym items)
          (named_written e place (ap (λ (trees : BTreeMap (String _) ℕ). get_by_text trees e) (sym others) ∙ h));
      found = λ place x h. place_stays (name_of x) ∙ found_written place x (ap (λ xs. slice_get xs place) (sym items) ∙ h);
    };
  }

-- the row that is there is put again
pub put_again : (m n : Rows) (e0 : List ℕ) (row : Row) → PutsRow e0 row m n → Some row ≡ row_at m e0 → SameRows m n
put_again m n e0 row put is = record {
  same = λ e. put.at e ∙ same_or_not e0 e
      (λ t same. ap (λ b. cond b (Some row) (row_at m e)) t ∙ is ∙ ap (row_at m) same)
      (λ f other. ap (λ b. cond b (Some row) (row_at m e)) f);
  held = λ place. number_or_not (spot_of m e0) place
      (λ t tied. ap (slice_get (held_in n)) (sym tied) ∙ put.held_here ∙ is ∙ sym (held_at m e0) ∙ ap (slice_get (held_in m)) tied)
      (λ t apart. put.held_apart place (λ same. apart (sym same)));
  rows = put.rows;
}
