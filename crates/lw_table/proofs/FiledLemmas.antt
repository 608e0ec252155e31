-- What adding keys of a place one by one, and dropping them, does to what is filed.
use Rattle.std.proofs.Common.{◌≡◌, ◌≢◌, ◌↔◌, ◌⊎◌, inl, inr, ℕ, ◌+◌, ◌<◌, ◌≤◌, length, get_or, drop, List, ◌∷◌, Option, Some, Result, Ok, Err, refl, sym, ap, ◌∙◌, subst}
use Rattle.std.specs.Prelude.{Contains, OnOk, OnErr}
use Rattle.std.proofs.lemmas.List.{at_drop_more, at_drop_all}
use Rattle.lw_due.specs.Due.{Entry}
use Rattle.lw_index.specs.Places.{IsPairOf, IsPlaceOf}
use Rattle.lw_reg.specs.declared.slot.Slot.{Slot}
use Rattle.lw_reg.proofs.Members.{none_there, there_or_first}
use Rattle.lw_table.specs.inner.Due.{OtherDue}
use Rattle.lw_table.specs.inner.Filed.{HasNumber, NumbersRow, OtherKeys, OtherNumbers, OthersSame}
use Rattle.lw_table.specs.Table.{number_of}
use Rattle.lw_table.specs.declared.filed.Filed.{Filed}
use Rattle.lw_table.specs.declared.row.Row.{Row}
use Rattle.lw_table.specs.Keys.{OptionHasKey}
use Rattle.lw_table.specs.declared.key.Key.{Key}

-- ---- one pair more or less
module _ {K : Type 0} (key : K) (place : ℕ) (old new : List (K × ℕ)) where
  module _ (added : (k : K) (p : ℕ) → IsPlaceOf new k p ↔ (IsPlaceOf old k p ⊎ IsPairOf key place k p)) where
    pub add_others : OtherKeys place old new
    add_others = record { same = λ k p other. (λ h. elim ((added k p).0 h) [ inl was ↦ was | inr pair ↦ absurd (other pair.1) ], λ h. (added k p).1 (inl h)) }

    pub add_stays : (k : K) → IsPlaceOf old k place → IsPlaceOf new k place
    add_stays k h = (added k place).1 (inl h)

    pub add_from : (k : K) → IsPlaceOf new k place → IsPlaceOf old k place ⊎ (k ≡ key)
    add_from k h = elim ((added k place).0 h) [ inl was ↦ inl was | inr pair ↦ inr pair.0 ]

    pub add_has : IsPlaceOf new key place
    add_has = (added key place).1 (inr (refl, refl))

  module _ (dropped : (k : K) (p : ℕ) → IsPlaceOf new k p ↔ (IsPlaceOf old k p × (IsPairOf key place k p → ⊥))) where
    pub drop_others : OtherKeys place old new
    drop_others = record { same = λ k p other. (λ h. ((dropped k p).0 h).0, λ h. (dropped k p).1 (h, λ pair. other pair.1)) }

    pub drop_from : (k : K) → IsPlaceOf new k place → IsPlaceOf old k place × (k ≢ key)
    drop_from k h = let w = (dropped k place).0 h in (w.0, λ same. w.1 (same, refl))

    pub drop_stays : (k : K) → IsPlaceOf old k place → k ≢ key → IsPlaceOf new k place
    drop_stays k h other = (dropped k place).1 (h, λ pair. other pair.0)

pub others_itself : {K : Type 0} (place : ℕ) (now : List (K × ℕ)) → OtherKeys place now now
others_itself place now = record { same = λ k p other. (λ h. h, λ h. h) }

pub others_then : {K : Type 0} (place : ℕ) (a b c : List (K × ℕ)) → OtherKeys place a b → OtherKeys place b c → OtherKeys place a c
others_then place a b c h g = record { same = λ k p other. (λ x. (h.same k p other).0 ((g.same k p other).0 x), λ x. (g.same k p other).1 ((h.same k p other).1 x)) }

-- ---- the keys that are left
module _ {A : Type 0} (xs : List A) (i : ℕ) (x : A) (within : i < length xs) (is : x ≡ get_or xs i x) where
  here : drop i xs ≡ x ∷ drop (i + 1) xs
  here = at_drop_more (λ l. l) xs i x within ∙ ap (λ y. y ∷ drop (i + 1) xs) (sym is)

  pub left_cases : (y : A) → Contains (drop i xs) y → (y ≡ x) ⊎ Contains (drop (i + 1) xs) y
  left_cases y h = there_or_first x (drop (i + 1) xs) y (subst (λ l. Contains l y) here h)

  pub item_there : Contains xs x
  item_there = (i, within, sym is)

pub nothing_left : {A G : Type 0} (xs : List A) (i : ℕ) (y : A) → length xs ≤ i → Contains (drop i xs) y → G
nothing_left xs i y past h = none_there y (subst (λ l. Contains l y) (at_drop_all (λ l. l) xs i past) h)

-- ---- adding
pub record Adding (place : ℕ) (keys : List Key) (first now : List (Key × ℕ)) (i : ℕ) : Type 0 where
  pub others : OtherKeys place first now
  pub stay : (k : Key) → IsPlaceOf first k place → IsPlaceOf now k place
  pub from : (k : Key) → IsPlaceOf now k place → IsPlaceOf first k place ⊎ Contains keys k
  pub all : (k : Key) → Contains keys k → IsPlaceOf now k place ⊎ Contains (drop i keys) k

pub adding_none : (place : ℕ) (keys : List Key) (now : List (Key × ℕ)) → Adding place keys now now 0
adding_none place keys now = record { others = others_itself place now; stay = λ k h. h; from = λ k h. inl h; all = λ k h. inr h }

pub adding_step : (place : ℕ) (keys : List Key) (first old new : List (Key × ℕ)) (i : ℕ) (key : Key)
    → i < length keys → key ≡ get_or keys i key
    → ((k : Key) (p : ℕ) → IsPlaceOf new k p ↔ (IsPlaceOf old k p ⊎ IsPairOf key place k p))
    → Adding place keys first old i → Adding place keys first new (i + 1)
adding_step place keys first old new i key within is added a = record {
  others = others_then place first old new a.others (add_others key place old new added);
  stay = λ k h. add_stays key place old new added k (a.stay k h);
  from = λ k h. elim (add_from key place old new added k h) [
    | inl was ↦ a.from k was
    | inr same ↦ inr (subst (Contains keys) (sym same) (item_there keys i key within is))
  ];
  all = λ k h. elim (a.all k h) [
    | inl was ↦ inl (add_stays key place old new added k was)
    | inr left ↦ elim (left_cases keys i key within is k left) [
      | inl same ↦ inl (subst (λ x. IsPlaceOf new x place) (sym same) (add_has key place old new added))
      | inr rest ↦ inr rest
    ]
  ];
}

-- ---- dropping what a slot lacks
pub record Dropping (place : ℕ) (slot : Option Slot) (keys : List Key) (first now : List (Key × ℕ)) (i : ℕ) : Type 0 where
  pub others : OtherKeys place first now
  pub has : (k : Key) → OptionHasKey slot k → IsPlaceOf now k place
  pub from : (k : Key) → IsPlaceOf now k place → OptionHasKey slot k ⊎ Contains (drop i keys) k

pub dropping_kept : (place : ℕ) (slot : Option Slot) (keys : List Key) (first now : List (Key × ℕ)) (i : ℕ) (key : Key)
    → i < length keys → key ≡ get_or keys i key → OptionHasKey slot key
    → Dropping place slot keys first now i → Dropping place slot keys first now (i + 1)
dropping_kept place slot keys first now i key within is kept d = record {
  others = d.others;
  has = d.has;
  from = λ k h. elim (d.from k h) [
    | inl has ↦ inl has
    | inr left ↦ elim (left_cases keys i key within is k left) [
      | inl same ↦ inl (subst (OptionHasKey slot) (sym same) kept)
      | inr rest ↦ inr rest
    ]
  ];
}

pub dropping_step : (place : ℕ) (slot : Option Slot) (keys : List Key) (first old new : List (Key × ℕ)) (i : ℕ) (key : Key)
    → i < length keys → key ≡ get_or keys i key → (OptionHasKey slot key → ⊥)
    → ((k : Key) (p : ℕ) → IsPlaceOf new k p ↔ (IsPlaceOf old k p × (IsPairOf key place k p → ⊥)))
    → Dropping place slot keys first old i → Dropping place slot keys first new (i + 1)
dropping_step place slot keys first old new i key within is lacks dropped d = record {
  others = others_then place first old new d.others (drop_others key place old new dropped);
  has = λ k h. drop_stays key place old new dropped k (d.has k h) (λ same. lacks (subst (OptionHasKey slot) same h));
  from = λ k h. let w = drop_from key place old new dropped k h in
      elim (d.from k w.0) [
        | inl has ↦ inl has
        | inr left ↦ elim (left_cases keys i key within is k left) [
          | inl same ↦ absurd (w.1 same)
          | inr rest ↦ inr rest
        ]
      ];
}

-- ---- numbers and due moments
pub either : {T E : Type 0} (P Q G : Type 0) (r : Result T E) → OnOk r P → OnErr r Q → (P → G) → (Q → G) → G
either P Q G (Ok x) h k f g = f h
either P Q G (Err e) h k f g = g k

pub same_numbers : (place : ℕ) (now : List (ℕ × ℕ)) → OtherNumbers place now now
same_numbers place now = record { same = λ n p other. (λ h. h, λ h. h) }

-- a place whose number is written twice has the second
pub numbers_after : (place : ℕ) (first second : Option Row) (a b c : List (ℕ × ℕ)) → NumbersRow place first a b → NumbersRow place second b c → NumbersRow place second a c
numbers_after place first second a b c h g = record {
  here = g.here;
  others = record { same = λ n p other. (λ w. (h.others.same n p other).0 ((g.others.same n p other).0 w), λ w. (g.others.same n p other).1 ((h.others.same n p other).1 w)) };
}

-- a place that has its number has it still
pub numbers_stay : (place : ℕ) (row : Option Row) (old new : List (ℕ × ℕ)) → new ≡ old → HasNumber old place (number_of row) → NumbersRow place row old new
numbers_stay place row old new same has = record {
  here = subst (λ l. HasNumber l place (number_of row)) (sym same) has;
  others = subst (OtherNumbers place old) (sym same) (same_numbers place old);
}

pub one_number : (a b : ℕ) → ◌≡◌ {A = Option ℕ} (Some a) (Some b) → a ≡ b
one_number a b h = cc

pub same_due : (endpoint : List ℕ) (now : List Entry) → OtherDue endpoint now now
same_due endpoint now = record { same = λ e other. refl }

-- other endpoints and places see nothing of a number
pub numbered : (old : Filed) (e : List ℕ) (place : ℕ) (numbers : List (ℕ × ℕ)) → OthersSame old (record { keys = old.keys; numbers = numbers; due = old.due }) e place
numbered old e place numbers = record { due = same_due e old.due; keys = others_itself place old.keys }

-- or of a due moment
pub put_due : (old : Filed) (e : List ℕ) (place : ℕ) (due : List Entry) → OtherDue e old.due due → OthersSame old (record { keys = old.keys; numbers = old.numbers; due = due }) e place
put_due old e place due h = record { due = h; keys = others_itself place old.keys }

pub due_then : (endpoint : List ℕ) (a b c : List Entry) → OtherDue endpoint a b → OtherDue endpoint b c → OtherDue endpoint a c
due_then endpoint a b c h g = record { same = λ e other. g.same e other ∙ h.same e other }

pub on_ok : {T E : Type 0} (P Q : Type 0) (r : Result T E) → (P → Q) → OnOk r P → OnOk r Q
on_ok P Q (Ok x) f h = f h
on_ok P Q (Err e) f h = h

-- or of keys
pub keyed : (old : Filed) (e : List ℕ) (place : ℕ) (keys : List (Key × ℕ)) → OtherKeys place old.keys keys → OthersSame old (record { keys = keys; numbers = old.numbers; due = old.due }) e place
keyed old e place keys h = record { due = same_due e old.due; keys = h }

pub on_err : {T E : Type 0} (P Q : Type 0) (r : Result T E) → (P → Q) → OnErr r P → OnErr r Q
on_err P Q (Ok x) f h = h
on_err P Q (Err e) f h = f h
