-- How a count goes on where one slot moves, or none.
use Rattle.std.proofs.Common.{◌≡◌, inl, inr, ℕ, zero, suc, ◌+◌, ◌<◌, ◌≤◌, Bool, true, false, cond, List, [], ◌∷◌, Option, Some, None, refl, sym, ap, ◌∙◌, subst, arith}
use Rattle.std.specs.Prelude.{bytes_eq, min, slice_get}
use Rattle.std.specs.Option.{IsSomeAnd}
use Rattle.std.specs.Cmp.Lexicographic.{bytes_decides}
use Rattle.std.specs.FinMap.{get}
use Rattle.std.specs.Ordering.{eq_by_cmp}
use Rattle.std.proofs.lemmas.Map.Views.{tells_apart}
use Rattle.lw_stamp.specs.TextOrder.{text_cmp}
use Rattle.lw_index.proofs.TextLemmas.{nothing_rises, one_rises}
use Rattle.lw_join.specs.Maps.{one_key}
use Rattle.lw_join.specs.Options.{option_join}
use Rattle.lw_join.proofs.MapLemmas.{get-map_join, get-one_key, maps_alike}
use Rattle.lw_reg.specs.OrderLaws.{text_order}
use Rattle.lw_reg.specs.declared.slot.Slot.{Slot}
use Rattle.lw_reg.specs.Slot.{slot_below, slot_join}
use Rattle.lw_reg.specs.SlotLaws.{slot_laws}
use Rattle.lw_reg.specs.State.{State, state_join}
use Rattle.lw_reg.proofs.Members.{none_there, first_there, there_or_first}
use Rattle.lw_table.specs.Changes.{Count, LAST, Recounts, counted}
use Rattle.lw_table.specs.Table.{slot_of, number_of}
use Rattle.lw_table.specs.inner.Moves.{next_row}
use Rattle.lw_table.specs.Rows.{IsRows, state_in, numbers_in}
use Rattle.lw_table.specs.inner.Rows.{row_at}
use Rattle.lw_table.specs.inner.KeyChanges.{joined_with}
use Rattle.lw_table.specs.declared.rows.Rows.{Rows}
use Rattle.lw_table.proofs.RowLemmas.{same_or_not}
use Rattle.lw_table.proofs.TableLemmas.{get-state, get-number}

one_slot : (a b : Slot) → ◌≡◌ {A = Option Slot} (Some a) (Some b) → a ≡ b
one_slot a b h = ap of h
  where
    of : Option Slot → Slot
    of None = a
    of (Some x) = x

news_moves : (o : Option Slot) (slot : Slot) → (IsSomeAnd o (slot_below slot) → ⊥) → o ≡ Some (joined_with o slot) → ⊥
news_moves None slot news h = cc
news_moves (Some s) slot news h = news (subst (slot_below slot) (sym (one_slot s (slot_join s slot) h)) (slot_laws.above_right s slot))

pub recount_none : (state : State) (count : Count) → Recounts state state count count
recount_none state count = record {
  moved = [];
  rising = nothing_rises;
  all = λ e. (λ h. none_there e h, λ moves. absurd (moves refl));
  change = stays count.change;
  numbered = λ i e h. absurd (let bad = h in cc);
  kept = λ e h. refl;
}
  where
    stays : (n : ℕ) → n ≡ counted n 0
    stays n = omega arith

module _ (m n : Rows) (rows_m : IsRows m) (rows_n : IsRows n) (e0 : List ℕ) (slot : Slot) (number change : ℕ)
    (at : (e : List ℕ) → row_at n e ≡ cond (bytes_eq e0 e) (Some (next_row (row_at m e0) slot number)) (row_at m e)) where
  row_here : (e : List ℕ) → bytes_eq e0 e ≡ true → row_at n e ≡ Some (next_row (row_at m e0) slot number)
  row_here e h = at e ∙ ap (λ b. cond b (Some (next_row (row_at m e0) slot number)) (row_at m e)) h

  row_apart : (e : List ℕ) → bytes_eq e0 e ≡ false → row_at n e ≡ row_at m e
  row_apart e h = at e ∙ ap (λ b. cond b (Some (next_row (row_at m e0) slot number)) (row_at m e)) h

  state_apart : (e : List ℕ) → bytes_eq e0 e ≡ false → get (state_in m) e ≡ get (state_in n) e
  state_apart e h = get-state m rows_m e ∙ ap slot_of (sym (row_apart e h)) ∙ sym (get-state n rows_n e)

  pub recount_one : (IsSomeAnd (get (state_in m) e0) (slot_below slot) → ⊥) → number ≡ counted change 1
      → Recounts (state_in m) (state_in n) (record { change = change; numbers = numbers_in m }) (record { change = number; numbers = numbers_in n })
  recount_one news is = record {
    moved = e0 ∷ [];
    rising = one_rises e0;
    all = λ e. (
      λ h. elim (there_or_first e0 [] e h) [ inl same ↦ (λ still. moves (subst (λ k. get (state_in m) k ≡ get (state_in n) k) same still)) | inr none ↦ none_there e none ],
      λ other. same_or_not e0 e (λ t same. first_there e0 [] e (sym same)) (λ f apart. absurd (other (state_apart e f))),
    );
    change = is;
    numbered = numbers;
    kept = λ e h. same_or_not e0 e
        (λ t same. absurd (moves (subst (λ k. get (state_in m) k ≡ get (state_in n) k) (sym same) h)))
        (λ f apart. get-number n rows_n e ∙ ap number_of (row_apart e f) ∙ sym (get-number m rows_m e));
  }
    where
      own : bytes_eq e0 e0 ≡ true
      own = (bytes_decides e0 e0).1 refl

      moves : get (state_in m) e0 ≡ get (state_in n) e0 → ⊥
      moves still =
          news_moves (slot_of (row_at m e0)) slot (λ below. news (subst (λ o. IsSomeAnd o (slot_below slot)) (sym (get-state m rows_m e0)) below))
          (sym (get-state m rows_m e0) ∙ still ∙ get-state n rows_n e0 ∙ ap slot_of (row_here e0 own))

      numbers : (i : ℕ) (e : List ℕ) → slice_get (e0 ∷ []) i ≡ Some e → get (numbers_in n) e ≡ Some (counted change (i + 1))
      numbers zero e h =
          let same : e0 ≡ e = cc in
          get-number n rows_n e ∙ ap number_of (row_here e ((bytes_decides e0 e).1 same)) ∙ ap Some is
      numbers (suc i) e h = absurd (let bad = h in cc)

known_slot : (o : Option Slot) (slot : Slot) → IsSomeAnd o (slot_below slot) → o ≡ option_join slot_join o (Some slot)
known_slot None slot h = absurd h
known_slot (Some s) slot h = ap Some (slot_laws.antisymmetric s (slot_join s slot) (slot_laws.above_left s slot) (slot_laws.least s slot s (slot_laws.reflexive s) h))

-- a slot that is below that of the endpoint is joined already
pub known_state : (state : State) (e0 : List ℕ) (slot : Slot) → IsSomeAnd (get state e0) (slot_below slot) → state ≡ state_join state (one_key e0 slot)
known_state state e0 slot known =
    maps_alike text_order _ _ (λ e. by_key e (eq_by_cmp text_cmp e e0) refl ∙ ap (option_join slot_join (get state e)) (sym (get-one_key text_order e0 slot e)) ∙ sym (get-map_join text_order slot_join state (one_key e0 slot) e))
  where
    alone : (o : Option Slot) → o ≡ option_join slot_join o None
    alone None = refl
    alone (Some s) = refl

    by_key : (e : List ℕ) (b : Bool) → eq_by_cmp text_cmp e e0 ≡ b → get state e ≡ option_join slot_join (get state e) (cond b (Some slot) None)
    by_key e true h = known_slot (get state e) slot (subst (λ k. IsSomeAnd (get state k) (slot_below slot)) (sym (tells_apart text_order.exact e e0 h)) known)
    by_key e false h = alone (get state e)

-- the next number: the last is not gone past
pub next_after : (change number : ℕ) → number ≡ counted change 1 → change ≤ LAST → (number ≤ number) × (change ≤ number) × (number ≤ LAST) × (number < LAST → change < number)
next_after change number is last = (omega arith, omega arith, omega arith, λ below. omega arith)

-- one more, which stays at the last
pub saturated : (change number : ℕ) → number ≡ min (change + 1) LAST → change ≤ LAST → number ≡ counted change 1
saturated change number is last = omega arith
