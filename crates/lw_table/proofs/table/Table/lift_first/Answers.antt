use Rattle.std.proofs.Common.{◌≡◌, ℕ, ◌<◌, ◌≤◌, ◌-◌, ◌^◌, List, Option, Some, None, sym, ap, ◌∙◌, subst, arith}
use Rattle.std.specs.Option.{IfSome}
use Rattle.lw_stamp.specs.Moment.{ms_of}
use Rattle.lw_due.specs.Due.{Entry, first_due, raised}
use Rattle.lw_reg.specs.declared.slot.Slot.{Slot}
use Rattle.lw_reg.specs.Marks.{among}
use Rattle.lw_reg.specs.Reading.{shown_in}
use Rattle.lw_table.specs.inner.Due.{deadline_at}
use Rattle.lw_table.specs.Table.{slot_of, IsTable, TableContent}
use Rattle.lw_table.specs.Lifts.{LiftsFirst}
use Rattle.lw_table.specs.Rows.{held_in, table_in}
use Rattle.lw_table.specs.inner.Rows.{row_at}
use Rattle.lw_table.specs.declared.filed.Filed.{Filed}
use Rattle.lw_table.proofs.CountLemmas.{saturated}
use Rattle.lw_table.proofs.DueLemmas.{HasPassed, has_passed}
use Rattle.lw_table.proofs.LiftLemmas.{LiftsFound, read_lifts, marks_lifts, none_lifts}
use Rattle.lw_table.proofs.LiftedTable.{raised_table, none_found, passed_seen, found, lifted_table}
use Rattle.lw_table.proofs.TableLemmas.{numbers_at}
use Rattle.lw_table.proofs.table.Table.lift_first.Goals as goal

-- ---- none is due
pub invariant_of-self : goal.invariant_of-self
invariant_of-self c = (
  c.self.invariant.0,
  raised_table c.self.inside.filed c.self.inside.rows c.self.invariant.0 c.self.inside.change c.raise_due.new.due c.self.invariant.1 c.raise_due.ensures.below c.raise_due.ensures.kept,
)

pub returns-in_err-endpoint : goal.returns-in_err-endpoint
returns-in_err-endpoint c =
    let t = c.args.self.now in
    let now = ms_of c.args.now in
    let filed = c.self.inside.filed in
    let due = c.raise_due.new.due in
    let new = table_in c.self.inside.rows c.self.inside.change in
    let table = subst (IsTable filed.keys filed.numbers due (held_in c.self.inside.rows)) c.self.view_is
    (raised_table filed c.self.inside.rows c.self.invariant.0 c.self.inside.change due c.self.invariant.1 c.raise_due.ensures.below c.raise_due.ensures.kept) in
    let none = subst (λ k. first_due k due ≡ None) c.ms-2.ensures.value (sym c.in_err-endpoint.ensures.first) in
    let nothing : LiftsFound now t None new = (none_found filed.keys filed.numbers due t table now none, c.self.view_is) in
    let is = sym c.from_residual.ensures in
    let read = subst (λ o. LiftsFirst (shown_in t.state) now t o new) is (read_lifts now t None new nothing) in
    record {
      read = read;
      marks = λ ms p s. subst (λ o. LiftsFirst (among ms) now t o new) is (marks_lifts now t None new nothing ms p s);
      none = none_lifts (shown_in t.state) now t c.from_residual.result new read;
    }

-- ---- the first that is due has passed its deadline
before_last : (k : ℕ) → k < 2 ^ 48 → k < 2 ^ 64 - 1
before_last k h = omega arith

passed_at : (now k l : ℕ) (due : List Entry) (e : List ℕ) (slots : List ℕ → Option Slot) → k ≡ now → l ≡ now → k < 2 ^ 48
    → IfSome (first_due k due) (λ x. deadline_at (slots x) ≤ k) → Some e ≡ first_due l due → HasPassed now (slots e) × (first_due now due ≡ Some e)
passed_at now k l due e slots same also fits come is =
    let first : first_due now due ≡ Some e = subst (λ x. first_due x due ≡ Some e) also (sym is) in
    let come_now : IfSome (first_due now due) (λ x. deadline_at (slots x) ≤ now) = subst (λ y. IfSome (first_due y due) (λ x. deadline_at (slots x) ≤ y)) same come in
    (has_passed now (slots e) (subst (λ y. y < 2 ^ 64 - 1) same (before_last k fits)) (subst (λ o. IfSome o (λ x. deadline_at (slots x) ≤ now)) first come_now), first)

pub lift-id-requires : goal.lift-id-requires
lift-id-requires c =
    let m = c.self.inside.rows in
    let e = c.in_ok-endpoint.endpoint.now in
    let passed = passed_at (ms_of c.args.now) c.ms.result c.ms-2.result c.raise_due.new.due e (λ k. slot_of (row_at m k)) c.ms.ensures.value c.ms-2.ensures.value c.ms.ensures.in_range c.raise_due.ensures.first c.in_ok-endpoint.ensures.first in
    record {
      numbers = numbers_at c.self.inside.filed m c.self.inside.change c.self.invariant.1 e;
      rows = c.self.invariant.0;
      seen = passed_seen (ms_of c.args.now) (row_at m e) passed.0;
    }

pub invariant_of-self-2 : goal.invariant_of-self-2
invariant_of-self-2 c =
    let now = ms_of c.args.now in
    let m = c.self.inside.rows in
    let n = c.lift-id.new.rows in
    let filed = c.self.inside.filed in
    let change = c.self.inside.change in
    let number = c.saturating_add-number.result in
    let due = c.raise_due.new.due in
    let e = c.in_ok-endpoint.endpoint.now in
    let passed = passed_at now c.ms.result c.ms-2.result due e (λ k. slot_of (row_at m k)) c.ms.ensures.value c.ms-2.ensures.value c.ms.ensures.in_range c.raise_due.ensures.first c.in_ok-endpoint.ensures.first in
    let old : Filed = record { keys = filed.keys; numbers = filed.numbers; due = due } in
    let was = raised_table filed m c.self.invariant.0 change due c.self.invariant.1 c.raise_due.ensures.below c.raise_due.ensures.kept in
    let lifted = c.lift-id.ensures.lifted in (
      lifted.put.rows,
      subst (λ xs. IsTable filed.keys c.lift-id.new.numbers xs (held_in n) (table_in n number)) (sym (c.raise_first.ensures.raised ∙ ap (λ k. raised k (2 ^ 64 - 1) due) c.ms-3.ensures.value))
          (lifted_table old m n c.self.invariant.0 change was e number c.lift-id.result lifted now passed.0 passed.1 (saturated change number c.saturating_add-number.ensures was.last)
          c.lift-id.new.numbers c.lift-id.ensures.others c.lift-id.ensures.number c.raise_first.ensures.rising),
    )

pub returns : goal.returns
returns c =
    let t = c.args.self.now in
    let now = ms_of c.args.now in
    let m = c.self.inside.rows in
    let n = c.lift-id.new.rows in
    let filed = c.self.inside.filed in
    let change = c.self.inside.change in
    let number = c.saturating_add-number.result in
    let due = c.raise_due.new.due in
    let e = c.in_ok-endpoint.endpoint.now in
    let id = c.lift-id.result in
    let passed = passed_at now c.ms.result c.ms-2.result due e (λ k. slot_of (row_at m k)) c.ms.ensures.value c.ms-2.ensures.value c.ms.ensures.in_range c.raise_due.ensures.first c.in_ok-endpoint.ensures.first in
    let old : Filed = record { keys = filed.keys; numbers = filed.numbers; due = due } in
    let was = raised_table filed m c.self.invariant.0 change due c.self.invariant.1 c.raise_due.ensures.below c.raise_due.ensures.kept in
    let new = table_in n number in
    let least : LiftsFound now t (Some id) new = subst (λ (x : TableContent). LiftsFound now x (Some id) new) c.self.view_is
    (found old m n c.self.invariant.0 change was e number id c.lift-id.ensures.lifted now passed.0 passed.1 (saturated change number c.saturating_add-number.ensures was.last)) in
    let read = read_lifts now t (Some id) new least in
    record {
      read = read;
      marks = marks_lifts now t (Some id) new least;
      none = none_lifts (shown_in t.state) now t (Some id) new read;
    }
