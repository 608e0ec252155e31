use Rattle.std.proofs.Common.{true, ◌∙◌, ap, sym, subst}
use Rattle.lw_due.specs.Due.{due_of, kept_of}
use Rattle.lw_table.specs.inner.Due.{OtherDue}
use Rattle.lw_table.proofs.DueLemmas.{due_of-with_kept, kept_of-with_kept, others_changed}
use Rattle.lw_table.proofs.filed.keep_revived.Goals as goal

pub returns-then-not-is_removed-clause-others : goal.returns-then-not-is_removed-clause-others
returns-then-not-is_removed-clause-others c =
    subst (OtherDue c.args.endpoint.now c.args.due.now) (sym c.keep.ensures.kept) (others_changed c.args.endpoint.now (λ note. (true, note.1)) c.args.due.now)

pub returns-then-not-is_removed-clause-due : goal.returns-then-not-is_removed-clause-due
returns-then-not-is_removed-clause-due c = ap (due_of c.args.endpoint.now) c.keep.ensures.kept ∙ due_of-with_kept c.args.endpoint.now true c.args.due.now

pub returns-then-not-is_removed-clause-kept : goal.returns-then-not-is_removed-clause-kept
returns-then-not-is_removed-clause-kept c = λ _. ap (kept_of c.args.endpoint.now) c.keep.ensures.kept ∙ kept_of-with_kept c.args.endpoint.now true c.args.due.now c.requires.there
