-- What an endpoint and its place are filed under while its row comes or moves.
use Rattle.std.proofs.Common.{◌≡◌, ◌↔◌, inl, inr, ℕ, true, List, Option, Some, None, Result, Ok, Err, refl, sym, subst}
use Rattle.std.specs.Prelude.{OnOk, OnErr, IsErr}
use Rattle.lw_due.specs.Due.{Entry, kept_of}
use Rattle.lw_index.specs.Places.{IsPlaceOf}
use Rattle.lw_reg.specs.declared.slot.Slot.{Slot}
use Rattle.lw_reg.specs.Reading.{IsRemoved}
use Rattle.lw_reg.specs.Slot.{slot_join}
use Rattle.lw_table.specs.Due.{HasDue}
use Rattle.lw_table.specs.inner.Filed.{IsFiled, IsOver, NumbersRow, OthersSame, IsBetween, HasAll}
use Rattle.lw_table.specs.inner.Moves.{moved_row}
use Rattle.lw_table.specs.inner.KeyChanges.{HasKeyChanges}
use Rattle.lw_table.specs.declared.filed.Filed.{Filed}
use Rattle.lw_table.specs.declared.key.Key.{Key}
use Rattle.lw_table.specs.declared.row.Row.{Row}
use Rattle.lw_table.proofs.FiledLemmas.{due_then}
use Rattle.lw_table.proofs.FiledLemmas as filing

pub err_then : {T E : Type 0} (P : Type 0) (r : Result T E) → P → OnErr r P
err_then P (Ok x) p = tt
err_then P (Err e) p = p

pub err_not : {T E : Type 0} (P : Type 0) (r : Result T E) → IsErr r → OnOk r P
err_not P (Ok x) h = absurd cc
err_not P (Err e) h = tt

abbrev pub with_keys : List (Key × ℕ) → List (ℕ × ℕ) → List Entry → Filed
with_keys keys numbers due = record { keys = keys; numbers = numbers; due = due }

module _ (old : Filed) (new : List (Key × ℕ)) (e : List ℕ) (place : ℕ) (keys : List Key) (between : IsBetween old.keys new place keys) where
  -- with the row as it was
  pub over_old : (row : Option Row) → IsFiled old e place row → IsOver (with_keys new old.numbers old.due) e place row keys
  over_old row filed = record {
    kept = λ h. filed.kept.1 h;
    keys_has = λ k h. between.stay k ((filed.keys k).1 h);
    keys_from = λ k h. elim (between.from k h) [ inl was ↦ inl ((filed.keys k).0 was) | inr listed ↦ inr listed ];
    due = filed.due;
  }

  module _ (all : HasAll new place keys) (slot : Slot) (number : ℕ) (numbers : List (ℕ × ℕ)) (due : List Entry) where
    -- with the row that moved
    pub over_moved : (row : Row) → IsFiled old e place (Some row) → HasKeyChanges (Some row.slot) slot keys → HasDue due e (slot_join row.slot slot) → ((IsRemoved (slot_join row.slot slot) → ⊥) → kept_of e due ≡ Some true)
        → IsOver (with_keys new numbers due) e place (Some (moved_row row slot number)) keys
    over_moved row filed key_changes is_due is_kept = record {
      kept = is_kept;
      keys_has = λ k h. elim (key_changes.gained k h) [ inl was ↦ between.stay k ((filed.keys k).1 was) | inr listed ↦ all k listed ];
      keys_from = λ k h. elim (between.from k h) [ inl was ↦ key_changes.lost k ((filed.keys k).0 was) | inr listed ↦ inr listed ];
      due = is_due;
    }

    -- with the first row
    pub filed_first : ((kept_of e due ≡ Some true) ↔ (IsRemoved slot → ⊥)) → IsFiled old e place None → HasKeyChanges None slot keys → HasDue due e slot → IsFiled (with_keys new numbers due) e place (Some (record { slot = slot; number = number }))
    filed_first is_kept filed key_changes is_due = record {
      kept = is_kept;
      keys = λ k. (
        λ h. elim (between.from k h) [ inl was ↦ absurd ((filed.keys k).0 was) | inr listed ↦ key_changes.first refl k listed ],
        λ h. elim (key_changes.gained k h) [ inl was ↦ absurd was | inr listed ↦ all k listed ],
      );
      due = is_due;
    }

-- under no more than keys of its row
pub over_none : (old new : Filed) (e : List ℕ) (place : ℕ) (row : Row) (keys : List Key) → new.keys ≡ old.keys → IsFiled old e place (Some row) → HasKeyChanges None row.slot keys → IsOver new e place None keys
over_none old new e place row keys same filed key_changes = record {
  kept = λ h. absurd h;
  keys_has = λ k h. absurd h;
  keys_from = λ k h. key_changes.gained k ((filed.keys k).0 (subst (λ (l : List (Key × ℕ)). IsPlaceOf l k place) same h));
  due = tt;
}

-- where there is no row a due moment does not matter
pub over_numbered : (filed : Filed) (e : List ℕ) (place : ℕ) (keys : List Key) → IsOver filed e place None keys → (numbers : List (ℕ × ℕ)) (due : List Entry)
    → IsOver (record { keys = filed.keys; numbers = numbers; due = due }) e place None keys
over_numbered filed e place keys over numbers due = record {
  kept = λ h. absurd h;
  keys_has = over.keys_has;
  keys_from = over.keys_from;
  due = tt;
}

-- numbers of the row that stay
pub numbers_still : (place : ℕ) (row : Option Row) (a b c : List (ℕ × ℕ)) → NumbersRow place row a b → c ≡ b → NumbersRow place row a c
numbers_still place row a b c h same = subst (λ l. NumbersRow place row a l) (sym same) h

pub others_then : (e : List ℕ) (place : ℕ) (a b c : Filed) → OthersSame a b e place → OthersSame b c e place → OthersSame a c e place
others_then e place a b c h g = record { due = due_then e a.due b.due c.due h.due g.due; keys = filing.others_then place a.keys b.keys c.keys h.keys g.keys }
