-- A table in which the registration of the first that is due ends.
use Rattle.std.proofs.Common.{◌≡◌, ◌↔◌, ℕ, ◌-◌, ◌^◌, Bool, true, cond, List, [], Option, Some, None, refl, sym, ap, ◌∙◌, subst}
use Rattle.std.specs.Prelude.{bytes_eq, IsSomeAnd}
use Rattle.std.specs.FinMap.{get}
use Rattle.std.specs.Option.{IsSome}
use Rattle.lw_stamp.specs.declared.moment.Moment.{Moment}
use Rattle.lw_stamp.specs.declared.stamp.Stamp.{Stamp}
use Rattle.lw_due.specs.Due.{Entry, IsRising, first_due, raised}
use Rattle.lw_due.proofs.NoteLemmas.{due_of-before_first, due_of-none_due, due_of-raised, kept_of-raised}
use Rattle.lw_reg.specs.declared.slot.Slot.{Slot}
use Rattle.lw_reg.specs.Endpoint.{IsEndpoint}
use Rattle.lw_reg.specs.Reading.{is_late, registered_in, seen_of}
use Rattle.lw_reg.specs.Slot.{slot_below, slot_join, ending}
use Rattle.lw_reg.proofs.EndLemmas.{ending_moves}
use Rattle.lw_table.specs.declared.filed.Filed.{Filed}
use Rattle.lw_table.specs.declared.key.Key.{Key}
use Rattle.lw_table.specs.declared.row.Row.{Row}
use Rattle.lw_table.specs.declared.rows.Rows.{Rows}
use Rattle.lw_table.specs.Changes.{counted}
use Rattle.lw_table.specs.Due.{OptionHasDue}
use Rattle.lw_table.specs.inner.Due.{KeepsKept}
use Rattle.lw_table.specs.inner.Filed.{HasNumber, IsFiled, OthersSame, OtherNumbers}
use Rattle.lw_table.specs.Table.{slot_of, IsKept, IsTable, TableContent}
use Rattle.lw_table.specs.inner.Found.{expired_at}
use Rattle.lw_table.specs.Lifts.{Lifts}
use Rattle.lw_table.specs.inner.Moves.{LiftsRowAt, PutsRow, WasSeen, moved_row, next_row}
use Rattle.lw_table.specs.Rows.{IsRows, held_in, state_in, table_in}
use Rattle.lw_table.specs.inner.Rows.{row_at, spot_of}
use Rattle.lw_table.proofs.CountLemmas.{next_after, recount_one}
use Rattle.lw_table.proofs.DueLemmas.{HasPassed, not_expired, others_raised}
use Rattle.lw_table.proofs.FiledLemmas.{numbered, put_due}
use Rattle.lw_table.proofs.LiftLemmas.{KeepsKeys, Lasting, LiftsFound, ended_keeps, expired_here, lasting_seen, lasts_as_seen, late_lasts, not_expired_here}
use Rattle.lw_table.proofs.MoveLemmas.{others_then}
use Rattle.lw_table.proofs.TableLemmas.{filed_at, get-state, joined_state, put_table, rows_of}

one_slot : (a b : Slot) → ◌≡◌ {A = Option Slot} (Some a) (Some b) → a ≡ b
one_slot a b h = ap of h
  where
    of : Option Slot → Slot
    of None = a
    of (Some x) = x

-- due moments that were raised no further than the deadlines
pub raised_table : (filed : Filed) (m : Rows) → IsRows m → (change : ℕ) (due : List Entry) → IsTable filed.keys filed.numbers filed.due (held_in m) (table_in m change)
    → ((e : List ℕ) → OptionHasDue filed.due e (slot_of (row_at m e)) → OptionHasDue due e (slot_of (row_at m e)))
    → KeepsKept filed.due due
    → IsTable filed.keys filed.numbers due (held_in m) (table_in m change)
raised_table filed m rows_m change due is below kept = record {
  kept_are = λ e. subst (λ (o : Option Bool). (o ≡ Some true) ↔ IsKept (get (state_in m) e)) (sym (kept e)) (is.kept_are e);
  keys_are = is.keys_are;
  numbers_are = is.numbers_are;
  due_below = λ e. subst (OptionHasDue due e) (sym (get-state m rows_m e)) (below e (subst (OptionHasDue filed.due e) (get-state m rows_m e) (is.due_below e)));
  numbered = is.numbered;
  within = is.within;
  alone = is.alone;
  last = is.last;
  endpoints = is.endpoints;
}

-- where none is due none has expired
pub none_found : (keys : List (Key × ℕ)) (numbers : List (ℕ × ℕ)) (due : List Entry) {held : List Row} (t : TableContent) → IsTable keys numbers due held t
    → (now : ℕ) → first_due now due ≡ None → (e : List ℕ) → expired_at now t.state e ≡ None
none_found keys numbers due t is now none e = not_expired_here now t.state e (not_expired now due e (get t.state e) (λ k h. due_of-none_due e now k due none h) (is.due_below e))

-- what has passed its deadline was seen
pub passed_seen : (now : ℕ) (o : Option Row) → HasPassed now (slot_of o) → WasSeen o
passed_seen now None passed = absurd (let bad = passed.is in cc)
passed_seen now (Some row) passed =
    let lasts = late_lasts now passed.slot passed.late in
    subst (λ s. IsSome (seen_of s)) (sym (one_slot row.slot passed.slot passed.is)) (lasting_seen passed.slot lasts.0 lasts.1)

module _ (old : Filed) (m n : Rows) (rows_m : IsRows m) (change : ℕ) (was : IsTable old.keys old.numbers old.due (held_in m) (table_in m change)) (e0 : List ℕ) (number : ℕ) (id : Stamp)
    (lifted : LiftsRowAt e0 number id m n) (now : ℕ) (passed : HasPassed now (slot_of (row_at m e0))) (first : first_due now old.due ≡ Some e0) (is_next : number ≡ counted change 1) where
  abbrev slot : Slot
  slot = lifted.was.slot

  abbrev seen : Stamp × Moment
  seen = lifted.lifted.seen

  slot_is : slot_of (row_at m e0) ≡ Some slot
  slot_is = ap slot_of lifted.is

  late : is_late now (registered_in [] slot) ≡ true
  late = subst (λ s. is_late now (registered_in [] s) ≡ true) (one_slot passed.slot slot (sym passed.is ∙ slot_is)) passed.late

  lasts : Lasting slot seen
  lasts = let last = late_lasts now slot late in lasts_as_seen slot last.0 seen last.1 lifted.lifted.seen_is

  abbrev over : Slot
  over = ending id seen.0

  abbrev row : Row
  row = moved_row lifted.was over number

  keeps : KeepsKeys slot (slot_join slot over)
  keeps = subst (λ r. KeepsKeys slot (slot_join slot (ending r seen.0))) lifted.lifted.id_is (ended_keeps slot seen lasts)

  put_row : PutsRow e0 row m n
  put_row = subst (λ (r : Row). PutsRow e0 r m n) lifted.lifted.moved lifted.put

  next_at : (e : List ℕ) → row_at n e ≡ cond (bytes_eq e0 e) (Some (next_row (row_at m e0) over number)) (row_at m e)
  next_at e = put_row.at e ∙ ap (λ (o : Option Row). cond (bytes_eq e0 e) (Some (next_row o over number)) (row_at m e)) (sym lifted.is)

  named : IsEndpoint e0
  named = (rows_of old m rows_m change was).endpoints e0 (subst IsSome (sym slot_is) refl)

  news : IsSomeAnd (get (state_in m) e0) (slot_below over) → ⊥
  news below =
      subst (λ r. ¬ slot_below (ending r seen.0) slot) lifted.lifted.id_is (ending_moves slot seen lasts)
      (subst (λ o. IsSomeAnd o (slot_below over)) (get-state m rows_m e0 ∙ slot_is) below)

  lifts : Lifts (table_in m change) e0 id (table_in n number)
  lifts = record {
    named = named;
    slot = slot;
    is = get-state m rows_m e0 ∙ slot_is;
    id_is = lifted.lifted.id_is;
    seen = seen;
    seen_is = lifted.lifted.seen_is;
    state = joined_state m n rows_m lifted.put.rows e0 over number next_at;
    count = recount_one m n rows_m lifted.put.rows e0 over number change next_at news is_next;
  }

  pub found : LiftsFound now (table_in m change) (Some id) (table_in n number)
  found = (
    e0,
    expired_here now (state_in m) e0 slot (get-state m rows_m e0 ∙ slot_is) late ∙ ap (λ r. Some (e0, r)) lifted.lifted.id_is,
    λ e less. not_expired_here now (state_in m) e (not_expired now old.due e (get (state_in m) e) (λ k h. due_of-before_first e e0 now k old.due first less h) (was.due_below e)),
    lifts,
  )

  -- ---- what is filed
  module _ (numbers : List (ℕ × ℕ)) (other_numbers : OtherNumbers (spot_of m e0) old.numbers numbers) (numbers_are : HasNumber numbers (spot_of m e0) (Some number)) (rising : IsRising old.due) where
    abbrev due : List Entry
    due = raised now (2 ^ 64 - 1) old.due

    abbrev numbered_so : Filed
    numbered_so = record { keys = old.keys; numbers = numbers; due = old.due }

    abbrev after : Filed
    after = record { keys = old.keys; numbers = numbers; due = due }

    abbrev place : ℕ
    place = spot_of m e0

    others : OthersSame old after e0 place
    others = others_then e0 place old numbered_so after (numbered old e0 place numbers) (put_due numbered_so e0 place due (others_raised e0 now (2 ^ 64 - 1) old.due first))

    filed_was : IsFiled old e0 place (Some lifted.was)
    filed_was = subst (IsFiled old e0 place) lifted.is (filed_at old m rows_m change was e0)

    filed : IsFiled after e0 place (Some row)
    filed = record {
      kept = (λ h. keeps.is, λ h. kept_of-raised e0 now (2 ^ 64 - 1) old.due ∙ filed_was.kept.1 keeps.was);
      keys = λ k. (λ h. (keeps.keys k).1 ((filed_was.keys k).0 h), λ h. (filed_was.keys k).1 ((keeps.keys k).0 h));
      due = record {
        at = 2 ^ 64 - 1;
        is = due_of-raised e0 now (2 ^ 64 - 1) old.due rising first;
        by = λ d h. absurd (let bad : None ≡ Some d = sym keeps.none ∙ h in cc);
      };
    }

    pub lifted_table : IsTable old.keys numbers due (held_in n) (table_in n number)
    lifted_table =
        let next = next_after change number is_next was.last in
        put_table old after m n rows_m change e0 others was row number put_row (filed, record { here = numbers_are; others = other_numbers }) next.0 next.1 next.2 next.3 named
