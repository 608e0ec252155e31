-- A table row by row: its state, its numbers, and what is filed beside.
use Rattle.std.proofs.Common.{◌≡◌, ◌≢◌, ◌↔◌, ℕ, ◌<◌, ◌≤◌, Bool, true, false, cond, List, [], Option, Some, None, refl, sym, ap, ◌∙◌, subst, slice_get, arith}
use Rattle.std.specs.Prelude.{bytes_eq, IsSome}
use Rattle.std.specs.Option.{option_map}
use Rattle.std.specs.FinMap.{get, get-empty}
use Rattle.std.specs.Ordering.{eq_by_cmp}
use Rattle.std.proofs.lemmas.Cmp.{eq_by_cmp_equiv}
use Rattle.std.proofs.lemmas.Map.Views.{tells_apart}
use Rattle.lw_stamp.specs.TextOrder.{text_cmp}
use Rattle.lw_join.specs.Maps.{one_key}
use Rattle.lw_join.specs.Options.{option_join}
use Rattle.lw_join.proofs.MapLemmas.{get-map_join, get-one_key, maps_alike}
use Rattle.lw_reg.specs.Endpoint.{IsEndpoint}
use Rattle.lw_reg.specs.OrderLaws.{text_order}
use Rattle.lw_reg.specs.declared.slot.Slot.{Slot}
use Rattle.lw_reg.specs.Slot.{slot_join}
use Rattle.lw_reg.specs.State.{state_join}
use Rattle.lw_table.specs.Changes.{LAST}
use Rattle.lw_table.specs.Due.{OptionHasDue}
use Rattle.lw_table.specs.inner.Copying.{KeysAll, NumbersAll}
use Rattle.lw_table.specs.inner.Filed.{HasKeys, HasNumber, IsDueAs, IsFiled, NumbersRow, OtherKeys, OtherNumbers, OthersSame}
use Rattle.lw_table.specs.Table.{slot_of, number_of, IsTable, IsKept, empty_table}
use Rattle.lw_due.specs.Due.{Entry, kept_of, note_of}
use Rattle.lw_index.specs.Places.{IsPlaceOf}
use Rattle.lw_recent.specs.Recent.{IsUnder}
use Rattle.lw_reg.proofs.Members.{none_there}
use Rattle.lw_table.specs.declared.key.Key.{Key}
use Rattle.lw_table.specs.Keys.{OptionHasKey}
use Rattle.lw_table.specs.inner.Due.{OtherDue}
use Rattle.lw_table.specs.inner.Moves.{FilesRow, PutsRow, SameRows, next_row}
use Rattle.lw_table.specs.Rows.{IsRows, held_in, name_of, state_in, numbers_in, table_in}
use Rattle.lw_table.specs.inner.Rows.{row_at, spot_of}
use Rattle.lw_table.specs.inner.KeyChanges.{joined_with}
use Rattle.lw_table.specs.declared.filed.Filed.{Filed}
use Rattle.lw_table.specs.declared.row.Row.{Row}
use Rattle.lw_table.specs.declared.rows.Rows.{Rows}
use Rattle.lw_table.proofs.DueLemmas.{still_due}
use Rattle.lw_table.proofs.RowLemmas.{get-each_in, held_at, held_row, number_or_not, row_there, same_or_not}

-- ---- the rows, endpoint by endpoint
pub slot_is : (o : Option Row) → option_map (λ (row : Row). row.slot) o ≡ slot_of o
slot_is None = refl
slot_is (Some row) = refl

number_is : (o : Option Row) → option_map (λ (row : Row). row.number) o ≡ number_of o
number_is None = refl
number_is (Some row) = refl

pub get-state : (m : Rows) → IsRows m → (e : List ℕ) → get (state_in m) e ≡ slot_of (row_at m e)
get-state m rows_m e = get-each_in (λ (row : Row). row.slot) m rows_m e ∙ slot_is (row_at m e)

pub get-number : (m : Rows) → IsRows m → (e : List ℕ) → get (numbers_in m) e ≡ number_of (row_at m e)
get-number m rows_m e = get-each_in (λ (row : Row). row.number) m rows_m e ∙ number_is (row_at m e)

-- ---- what is filed of each endpoint
slot_some : (o : Option Row) → IsSome (slot_of o) ↔ IsSome (number_of o)
slot_some None = (λ h. h, λ h. h)
slot_some (Some row) = (λ h. h, λ h. h)

pub filed_at : (filed : Filed) (m : Rows) → IsRows m → (change : ℕ) → IsTable filed.keys filed.numbers filed.due (held_in m) (table_in m change) → (e : List ℕ) → IsFiled filed e (spot_of m e) (row_at m e)
filed_at filed m rows_m change is e = record {
  kept = subst (λ o. (kept_of e filed.due ≡ Some true) ↔ IsKept o) (get-state m rows_m e) (is.kept_are e);
  keys = λ k. subst (λ o. IsPlaceOf filed.keys k (spot_of m e) ↔ OptionHasKey (slot_of o) k) (held_at m e) (is.keys_are k (spot_of m e));
  due = subst (OptionHasDue filed.due e) (get-state m rows_m e) (is.due_below e);
}

pub due_as : (filed : Filed) (e : List ℕ) (place : ℕ) (row : Option Row) → IsFiled filed e place row → IsDueAs filed e row
due_as filed e place row is = record { kept = is.kept; due = is.due }

-- the place of an endpoint is filed under the number of its row
pub numbers_at : (filed : Filed) (m : Rows) (change : ℕ) → IsTable filed.keys filed.numbers filed.due (held_in m) (table_in m change) → (e : List ℕ) → HasNumber filed.numbers (spot_of m e) (number_of (row_at m e))
numbers_at filed m change is e n = subst (λ o. IsUnder filed.numbers n (spot_of m e) ↔ (number_of o ≡ Some n)) (held_at m e) (is.numbers_are n (spot_of m e))

-- rows of endpoints, under numbers that were given
pub record AreRows (m : Rows) (change : ℕ) : Type 0 where
  pub within : (e : List ℕ) (n : ℕ) → number_of (row_at m e) ≡ Some n → n ≤ change
  pub alone : (d e : List ℕ) (n : ℕ) → n < LAST → number_of (row_at m d) ≡ Some n → number_of (row_at m e) ≡ Some n → d ≡ e
  pub last : change ≤ LAST
  pub endpoints : (e : List ℕ) → IsSome (slot_of (row_at m e)) → IsEndpoint e

pub rows_of : (filed : Filed) (m : Rows) → IsRows m → (change : ℕ) → IsTable filed.keys filed.numbers filed.due (held_in m) (table_in m change) → AreRows m change
rows_of filed m rows_m change is = record {
  within = λ e n h. is.within n e (get-number m rows_m e ∙ h);
  alone = λ d e n below h k. is.alone n d e below (get-number m rows_m d ∙ h) (get-number m rows_m e ∙ k);
  last = is.last;
  endpoints = λ e h. is.endpoints e (subst IsSome (sym (get-state m rows_m e)) h);
}

pub table_of : (filed : Filed) (m : Rows) → IsRows m → (change : ℕ) → ((e : List ℕ) → IsDueAs filed e (row_at m e)) → KeysAll filed.keys m → NumbersAll filed.numbers m → AreRows m change
    → IsTable filed.keys filed.numbers filed.due (held_in m) (table_in m change)
table_of filed m rows_m change each keys numbers rows = record {
  kept_are = λ e. subst (λ o. (kept_of e filed.due ≡ Some true) ↔ IsKept o) (sym (get-state m rows_m e)) (each e).kept;
  keys_are = λ k place. keys place k;
  numbers_are = numbers;
  due_below = λ e. subst (OptionHasDue filed.due e) (sym (get-state m rows_m e)) (each e).due;
  numbered = λ e. (
    λ h. subst IsSome (sym (get-number m rows_m e)) ((slot_some (row_at m e)).0 (subst IsSome (get-state m rows_m e) h)),
    λ h. subst IsSome (sym (get-state m rows_m e)) ((slot_some (row_at m e)).1 (subst IsSome (get-number m rows_m e) h)),
  );
  within = λ n e h. rows.within e n (sym (get-number m rows_m e) ∙ h);
  alone = λ n d e below h k. rows.alone d e n below (sym (get-number m rows_m d) ∙ h) (sym (get-number m rows_m e) ∙ k);
  last = rows.last;
  endpoints = λ e h. rows.endpoints e (subst IsSome (get-state m rows_m e) h);
}

kept_so : (old new : List Entry) (e : List ℕ) (slot : Option Slot) → note_of e new ≡ note_of e old → (kept_of e old ≡ Some true) ↔ IsKept slot → (kept_of e new ≡ Some true) ↔ IsKept slot
kept_so old new e slot same kept = subst (λ (o : Option Bool). (o ≡ Some true) ↔ IsKept slot) (sym (ap (option_map (λ note. note.0)) same)) kept

pub same_due : (old new : Filed) (e0 : List ℕ) → OtherDue e0 old.due new.due → (e : List ℕ) (row : Option Row) → e ≢ e0 → IsDueAs old e row → IsDueAs new e row
same_due old new e0 others e row other is =
    let same = others.same e other in
    record { kept = kept_so old.due new.due e (slot_of row) same is.kept; due = still_due old.due new.due e (slot_of row) same is.due }

-- ---- what is filed of all places
-- Old and New say how a place that holds a row is filed, before and after; of all places but one it stays.
module _ (Old New : ℕ → Option Row → Type 0) (m n : Rows) (e : List ℕ) (all : (place : ℕ) → Old place (slice_get (held_in m) place))
    (stays : (place : ℕ) (row : Option Row) → place ≢ spot_of m e → Old place row → New place row) where
  -- where a row is put
  each_put : (row : Row) → slice_get (held_in n) (spot_of m e) ≡ Some row → ((place : ℕ) → place ≢ spot_of m e → slice_get (held_in n) place ≡ slice_get (held_in m) place)
      → New (spot_of m e) (Some row) → (place : ℕ) → New place (slice_get (held_in n) place)
  each_put row held_here held_apart here place = number_or_not (spot_of m e) place
      (λ t tied. subst (λ p. New p (slice_get (held_in n) p)) tied (subst (New (spot_of m e)) (sym held_here) here))
      (λ t apart.
      let other : place ≢ spot_of m e = λ same. apart (sym same) in
      subst (New place) (sym (held_apart place other)) (stays place (slice_get (held_in m) place) other (all place)))

  -- where none changes
  each_kept : ((place : ℕ) → slice_get (held_in n) place ≡ slice_get (held_in m) place) → New (spot_of m e) (row_at m e) → (place : ℕ) → New place (slice_get (held_in n) place)
  each_kept held here place = subst (New place) (sym (held place)) (number_or_not (spot_of m e) place
      (λ t tied. subst (λ p. New p (slice_get (held_in m) p)) tied (subst (New (spot_of m e)) (sym (held_at m e)) here))
      (λ t apart. stays place (slice_get (held_in m) place) (λ same. apart (sym same)) (all place)))

abbrev Numbered : List (ℕ × ℕ) → ℕ → Option Row → Type 0
Numbered numbers place row = HasNumber numbers place (number_of row)

abbrev Keyed : List (Key × ℕ) → ℕ → Option Row → Type 0
Keyed keys place row = HasKeys keys place (slot_of row)

module _ (old new : List (ℕ × ℕ)) (m n : Rows) (e : List ℕ) (all : NumbersAll old m) where
  number_stays : OtherNumbers (spot_of m e) old new → (place : ℕ) (row : Option Row) → place ≢ spot_of m e → Numbered old place row → Numbered new place row
  number_stays others place row other h k = let same = others.same k place other in (λ w. (h k).0 (same.0 w), λ w. same.1 ((h k).1 w))

  pub numbers_put : (row : Row) → PutsRow e row m n → NumbersRow (spot_of m e) (Some row) old new → NumbersAll new n
  numbers_put row put numbers k place = each_put (Numbered old) (Numbered new) m n e (λ p j. all j p) (number_stays numbers.others) row put.held_here put.held_apart numbers.here place k

  pub numbers_kept : SameRows m n → NumbersRow (spot_of m e) (row_at m e) old new → NumbersAll new n
  numbers_kept same numbers k place = each_kept (Numbered old) (Numbered new) m n e (λ p j. all j p) (number_stays numbers.others) same.held numbers.here place k

module _ (old new : List (Key × ℕ)) (m n : Rows) (e : List ℕ) (others : OtherKeys (spot_of m e) old new) (all : KeysAll old m) where
  key_stays : (place : ℕ) (row : Option Row) → place ≢ spot_of m e → Keyed old place row → Keyed new place row
  key_stays place row other h k = let same = others.same k place other in (λ w. (h k).0 (same.0 w), λ w. same.1 ((h k).1 w))

  pub keys_put : (row : Row) → PutsRow e row m n → HasKeys new (spot_of m e) (Some row.slot) → KeysAll new n
  keys_put row put here = each_put (Keyed old) (Keyed new) m n e all key_stays row put.held_here put.held_apart here

  pub keys_kept : SameRows m n → HasKeys new (spot_of m e) (slot_of (row_at m e)) → KeysAll new n
  keys_kept same here = each_kept (Keyed old) (Keyed new) m n e all key_stays same.held here

-- ---- one row is put
module _ (old new : Filed) (m n : Rows) (rows_m : IsRows m) (change : ℕ) (e0 : List ℕ) (others : OthersSame old new e0 (spot_of m e0)) (was : IsTable old.keys old.numbers old.due (held_in m) (table_in m change)) where
  module _ (row : Row) (next : ℕ) (put : PutsRow e0 row m n) (files : FilesRow e0 (spot_of m e0) (Some row) old new) where
    here : (e : List ℕ) → bytes_eq e0 e ≡ true → row_at n e ≡ Some row
    here e h = put.at e ∙ ap (λ b. cond b (Some row) (row_at m e)) h

    apart : (e : List ℕ) → bytes_eq e0 e ≡ false → row_at n e ≡ row_at m e
    apart e h = put.at e ∙ ap (λ b. cond b (Some row) (row_at m e)) h

    put_each : (e : List ℕ) → IsDueAs new e (row_at n e)
    put_each e =
        same_or_not e0 e
        (λ t same. subst (IsDueAs new e) (sym (here e t)) (subst (λ x. IsDueAs new x (Some row)) same (due_as new e0 (spot_of m e0) (Some row) files.0)))
        (λ f other. subst (IsDueAs new e) (sym (apart e f)) (same_due old new e0 others.due e (row_at m e) (λ same. other (sym same)) (due_as old e (spot_of m e) (row_at m e) (filed_at old m rows_m change was e))))

    some_number : (a b : ℕ) → ◌≡◌ {A = Option ℕ} (Some a) (Some b) → a ≡ b
    some_number a b h = cc

    -- the number is another's alone where it is the last
    not_taken : (row.number < LAST → change < row.number) → (e : List ℕ) (k : ℕ) → k < LAST → row.number ≡ k → k ≤ change → ⊥
    not_taken fresh e k below is taken = (let above = fresh (omega (arith, below, is)) in omega (arith, above, is, taken))

    pub put_table : row.number ≤ next → change ≤ next → next ≤ LAST → (row.number < LAST → change < row.number) → IsEndpoint e0 → IsTable new.keys new.numbers new.due (held_in n) (table_in n next)
    put_table given more last fresh endpoint =
        let rows = rows_of old m rows_m change was in
        table_of new n put.rows next put_each (keys_put old.keys new.keys m n e0 others.keys (λ p k. was.keys_are k p) row put files.0.keys) (numbers_put old.numbers new.numbers m n e0 was.numbers_are row put files.1) (record {
          within = λ e k h. same_or_not e0 e
              (λ t same. let is : row.number ≡ k = some_number row.number k (ap number_of (sym (here e t)) ∙ h) in omega arith)
              (λ f other. let below : k ≤ change = rows.within e k (ap number_of (sym (apart e f)) ∙ h) in omega arith);
          alone = λ d e k below h j. same_or_not e0 d
              (λ t same. same_or_not e0 e
              (λ u alike. sym same ∙ alike)
              (λ f other. absurd (not_taken fresh e k below (some_number row.number k (ap number_of (sym (here d t)) ∙ h)) (rows.within e k (ap number_of (sym (apart e f)) ∙ j)))))
              (λ f other. same_or_not e0 e
              (λ u alike. absurd (not_taken fresh d k below (some_number row.number k (ap number_of (sym (here e u)) ∙ j)) (rows.within d k (ap number_of (sym (apart d f)) ∙ h))))
              (λ g apart_too. rows.alone d e k below (ap number_of (sym (apart d f)) ∙ h) (ap number_of (sym (apart e g)) ∙ j)));
          last = last;
          endpoints = λ e h. same_or_not e0 e
              (λ t same. subst IsEndpoint same endpoint)
              (λ f other. rows.endpoints e (subst (λ o. IsSome (slot_of o)) (apart e f) h));
        })

  -- no row changed
  pub kept_table : SameRows m n → FilesRow e0 (spot_of m e0) (row_at m e0) old new → IsTable new.keys new.numbers new.due (held_in n) (table_in n change)
  kept_table same files =
      let rows = rows_of old m rows_m change was in
      table_of new n same.rows change
      (λ e. subst (IsDueAs new e) (sym (same.same e)) (same_or_not e0 e
      (λ t alike. subst (λ x. IsDueAs new x (row_at m x)) alike (due_as new e0 (spot_of m e0) (row_at m e0) files.0))
      (λ f other. same_due old new e0 others.due e (row_at m e) (λ alike. other (sym alike)) (due_as old e (spot_of m e) (row_at m e) (filed_at old m rows_m change was e)))))
      (keys_kept old.keys new.keys m n e0 others.keys (λ p k. was.keys_are k p) same files.0.keys)
      (numbers_kept old.numbers new.numbers m n e0 was.numbers_are same files.1)
      (record {
        within = λ e k h. rows.within e k (ap number_of (sym (same.same e)) ∙ h);
        alone = λ d e k below h j. rows.alone d e k below (ap number_of (sym (same.same d)) ∙ h) (ap number_of (sym (same.same e)) ∙ j);
        last = rows.last;
        endpoints = λ e h. rows.endpoints e (subst (λ o. IsSome (slot_of o)) (same.same e) h);
      })

-- ---- the state and the numbers
pub same_state : (m n : Rows) → IsRows m → IsRows n → ((e : List ℕ) → row_at n e ≡ row_at m e) → state_in n ≡ state_in m
same_state m n rows_m rows_n same = maps_alike text_order _ _ (λ e. get-state n rows_n e ∙ ap slot_of (same e) ∙ sym (get-state m rows_m e))

pub same_numbers : (m n : Rows) → IsRows m → IsRows n → ((e : List ℕ) → row_at n e ≡ row_at m e) → numbers_in n ≡ numbers_in m
same_numbers m n rows_m rows_n same = maps_alike text_order _ _ (λ e. get-number n rows_n e ∙ ap number_of (same e) ∙ sym (get-number m rows_m e))

pub same_table : (m n : Rows) → IsRows m → IsRows n → (change : ℕ) → ((e : List ℕ) → row_at n e ≡ row_at m e) → table_in n change ≡ table_in m change
same_table m n rows_m rows_n change same = λ i. record { state = same_state m n rows_m rows_n same i; count = record { change = change; numbers = same_numbers m n rows_m rows_n same i } }

joined_some : (o : Option Slot) (slot : Slot) → option_join slot_join o (Some slot) ≡ Some (joined_with o slot)
joined_some None slot = refl
joined_some (Some old) slot = refl

nothing_joined : (x : Option Slot) → x ≡ option_join slot_join x None
nothing_joined None = refl
nothing_joined (Some x) = refl

-- the slot is joined to that of its endpoint
pub joined_state : (m n : Rows) → IsRows m → IsRows n → (e0 : List ℕ) (slot : Slot) (number : ℕ)
    → ((e : List ℕ) → row_at n e ≡ cond (bytes_eq e0 e) (Some (next_row (row_at m e0) slot number)) (row_at m e))
    → state_in n ≡ state_join (state_in m) (one_key e0 slot)
joined_state m n rows_m rows_n e0 slot number at = maps_alike text_order _ _ (λ e. get-state n rows_n e ∙ ap slot_of (at e) ∙ by_key e ∙ sym (right e))
  where
    right : (e : List ℕ) → get (state_join (state_in m) (one_key e0 slot)) e ≡ option_join slot_join (slot_of (row_at m e)) (cond (eq_by_cmp text_cmp e e0) (Some slot) None)
    right e =
        get-map_join text_order slot_join (state_in m) (one_key e0 slot) e
        ∙ (λ i. option_join slot_join (get-state m rows_m e i) (get-one_key text_order e0 slot e i))

    own_key : (e : List ℕ) → e0 ≡ e → eq_by_cmp text_cmp e e0 ≡ true
    own_key e same = subst (λ k. eq_by_cmp text_cmp k e0 ≡ true) same ((eq_by_cmp_equiv text_order.total).refl e0)

    other_key : (e : List ℕ) → e0 ≢ e → eq_by_cmp text_cmp e e0 ≡ false
    other_key e other = go (eq_by_cmp text_cmp e e0) refl
      where
        go : (b : Bool) → eq_by_cmp text_cmp e e0 ≡ b → b ≡ false
        go true h = absurd (other (sym (tells_apart text_order.exact e e0 h)))
        go false h = refl

    by_key : (e : List ℕ) → slot_of (cond (bytes_eq e0 e) (Some (next_row (row_at m e0) slot number)) (row_at m e)) ≡ option_join slot_join (slot_of (row_at m e)) (cond (eq_by_cmp text_cmp e e0) (Some slot) None)
    by_key e =
        same_or_not e0 e
        (λ t same.
        ap (λ b. slot_of (cond b (Some (next_row (row_at m e0) slot number)) (row_at m e))) t
        ∙ ap (λ k. Some (joined_with (slot_of (row_at m k)) slot)) same
        ∙ sym (joined_some (slot_of (row_at m e)) slot)
        ∙ ap (λ b. option_join slot_join (slot_of (row_at m e)) (cond b (Some slot) None)) (sym (own_key e same)))
        (λ f other.
        ap (λ b. slot_of (cond b (Some (next_row (row_at m e0) slot number)) (row_at m e))) f
        ∙ nothing_joined (slot_of (row_at m e))
        ∙ ap (λ b. option_join slot_join (slot_of (row_at m e)) (cond b (Some slot) None)) (sym (other_key e other)))

-- ---- nothing is known
pub nothing_filed : (keys : List (Key × ℕ)) (numbers : List (ℕ × ℕ)) (due : List Entry) (m : Rows) → IsRows m
    → keys ≡ [] → numbers ≡ [] → due ≡ [] → ((e : List ℕ) → row_at m e ≡ None) → IsTable keys numbers due (held_in m) (table_in m 0)
nothing_filed keys numbers due m rows_m no_keys no_numbers no_due none =
    table_of (record { keys = keys; numbers = numbers; due = due }) m rows_m 0
    (λ e. subst (IsDueAs (record { keys = keys; numbers = numbers; due = due }) e) (sym (none e)) (record {
      kept = (λ h. absurd (let bad : ◌≡◌ {A = Option Bool} None (Some true) = subst (λ l. kept_of e l ≡ Some true) no_due h in cc), λ h. absurd h);
      due = tt;
    }))
    (λ place k. (
      λ h. none_there (k, place) (subst (λ l. IsPlaceOf l k place) no_keys h),
      λ h. absurd (no_slot place k h),
    ))
    (λ n place. (
      λ h. none_there (n, place) (subst (λ l. IsUnder l n place) no_numbers h),
      λ h. absurd (let bad : None ≡ Some n = ap number_of (sym (held_none place)) ∙ h in cc),
    ))
    (record {
      within = λ e n h. absurd (let bad : None ≡ Some n = ap number_of (sym (none e)) ∙ h in cc);
      alone = λ d e n below h k. absurd (let bad : None ≡ Some n = ap number_of (sym (none d)) ∙ h in cc);
      last = omega arith;
      endpoints = λ e h. absurd (let bad : false ≡ true = subst (λ o. IsSome (slot_of o)) (none e) h in cc);
    })
  where
    -- a row that is there is found by its endpoint
    held_none : (place : ℕ) → slice_get (held_in m) place ≡ None
    held_none place = go (slice_get (held_in m) place) refl
      where
        go : (o : Option Row) → slice_get (held_in m) place ≡ o → o ≡ None
        go None is = refl
        go (Some row) is =
            let held = held_row m place row.number (ap number_of is) in
            let there = row_there m (name_of held.0) place held.0 (rows_m.found place held.0 held.1) held.1 in
            absurd (let bad : None ≡ Some held.0.row = sym (none (name_of held.0)) ∙ there in cc)

    no_slot : (place : ℕ) (k : Key) → OptionHasKey (slot_of (slice_get (held_in m) place)) k → ⊥
    no_slot place k h = subst (λ o. OptionHasKey (slot_of o) k) (held_none place) h

pub nothing_in : (m : Rows) → IsRows m → ((e : List ℕ) → row_at m e ≡ None) → table_in m 0 ≡ empty_table
nothing_in m rows_m none = λ i. record {
  state = maps_alike text_order _ _ (λ e. get-state m rows_m e ∙ ap slot_of (none e) ∙ sym (get-empty text_cmp e)) i;
  count = record { change = 0; numbers = maps_alike text_order _ _ (λ e. get-number m rows_m e ∙ ap number_of (none e) ∙ sym (get-empty text_cmp e)) i };
}
