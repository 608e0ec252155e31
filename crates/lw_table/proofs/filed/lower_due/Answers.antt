use Rattle.std.proofs.Common.{◌∙◌, ap, min, sym, subst}
use Rattle.lw_due.specs.Due.{kept_of, note_of}
use Rattle.lw_table.specs.Due.{HasDue}
use Rattle.lw_table.specs.inner.Due.{OtherDue}
use Rattle.lw_table.proofs.DueLemmas.{has_lowered, is_due_still, kept_of-lowered, note_there, others_changed}
use Rattle.lw_table.proofs.FiledLemmas.{same_due}
use Rattle.lw_table.proofs.filed.lower_due.Goals as goal

pub returns-then-falls-clause-others : goal.returns-then-falls-clause-others
returns-then-falls-clause-others c = subst (OtherDue c.args.endpoint.now c.args.due.now) (sym c.lower.ensures.lowered) (others_changed c.args.endpoint.now (λ note. (note.0, min note.1 c.in-Some.deadline)) c.args.due.now)

pub returns-then-falls-clause-due : goal.returns-then-falls-clause-due
returns-then-falls-clause-due c =
    let e = c.args.endpoint.now in
    subst (λ xs. HasDue xs e c.args.slot.now) (sym c.lower.ensures.lowered)
    (has_lowered e c.in-Some.deadline c.args.due.now c.args.slot.now (note_there (note_of e c.args.due.now) c.requires.at c.requires.is) (sym c.in-Some.ensures.value))

pub returns-then-falls-clause-kept : goal.returns-then-falls-clause-kept
returns-then-falls-clause-kept c = ap (kept_of c.args.endpoint.now) c.lower.ensures.lowered ∙ kept_of-lowered c.args.endpoint.now c.in-Some.deadline c.args.due.now

pub returns-else-falls-clause-others : goal.returns-else-falls-clause-others
returns-else-falls-clause-others c = same_due c.args.endpoint.now c.args.due.now

pub returns-else-falls-clause-due : goal.returns-else-falls-clause-due
returns-else-falls-clause-due c =
    is_due_still c.args.due.now c.args.endpoint.now c.args.slot.now c.args.before c.in-Some.deadline c.requires c.in-Some.ensures.value (λ at. c.falls.ensures at c.if-falls.false)
