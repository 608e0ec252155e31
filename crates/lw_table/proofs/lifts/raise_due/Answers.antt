use Rattle.std.proofs.Common.{◌<◌, ◌∙◌, List, ℕ, Option, ap, refl, sym, subst, rules}
use Rattle.lw_due.specs.Due.{kept_of, raised}
use Rattle.lw_due.proofs.NoteLemmas.{kept_of-raised}
use Rattle.lw_reg.specs.declared.slot.Slot.{Slot}
use Rattle.lw_table.specs.Due.{OptionHasDue}
use Rattle.lw_table.specs.Table.{slot_of}
use Rattle.lw_table.specs.inner.Rows.{row_at}
use Rattle.lw_table.proofs.DueLemmas.{due_count, fewer_due, raised_below}
use Rattle.lw_table.proofs.lifts.raise_due.Goals as goal

pub loop-endpoint-smaller : goal.loop-endpoint-smaller
loop-endpoint-smaller c =
    let due = c.loop-endpoint.due in
    let deadline = c.deadline_at-deadline.result in
    let later : c.args.now < deadline = search rules in
    subst (λ xs. due_count c.args.now xs < due_count c.args.now due) (sym c.raise_first.ensures.raised) (fewer_due c.args.now deadline c.in-Some.endpoint.now due later (sym c.in-Some.ensures.first))

pub loop-endpoint-preserved : goal.loop-endpoint-preserved
loop-endpoint-preserved c =
    let due = c.loop-endpoint.due in
    let slots : List ℕ → Option Slot = λ k. slot_of (row_at c.args.rows.now k) in (
      λ e was.
          subst (λ xs. OptionHasDue xs e (slots e)) (sym c.raise_first.ensures.raised)
          (subst (λ d. OptionHasDue (raised c.args.now d due) e (slots e)) (sym c.deadline_at-deadline.ensures)
          (raised_below slots c.in-Some.endpoint.now c.args.now due c.first.ensures.rising (sym c.in-Some.ensures.first) e (c.loop-endpoint.invariant.0 e was))),
      λ e. ap (kept_of e) c.raise_first.ensures.raised ∙ kept_of-raised e c.args.now c.deadline_at-deadline.result due ∙ c.loop-endpoint.invariant.1 e,
    )

pub loop-endpoint-init : goal.loop-endpoint-init
loop-endpoint-init c = (λ e was. was, λ e. refl)
