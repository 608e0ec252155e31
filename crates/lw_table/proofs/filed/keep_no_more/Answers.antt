use Rattle.std.proofs.Common.{◌∙◌, ap, false, refl, sym, subst}
use Rattle.lw_due.specs.Due.{due_of, kept_of}
use Rattle.lw_table.specs.inner.Due.{OtherDue}
use Rattle.lw_table.proofs.DueLemmas.{due_of-with_kept, kept_no_more, others_changed}
use Rattle.lw_table.proofs.FiledLemmas.{same_due}
use Rattle.lw_table.proofs.filed.keep_no_more.Goals as goal

pub returns-then-is_kept : goal.returns-then-is_kept
returns-then-is_kept c =
    let kept = c.is_kept.ensures.0 c.if-is_kept.true in
    record {
      others = same_due c.args.endpoint.now c.args.due.now;
      due = refl;
      kept = (λ h. kept, λ h. c.requires h);
    }

pub returns : goal.returns
returns c =
    let e = c.args.endpoint.now in
    let xs = c.args.due.now in
    record {
      others = subst (OtherDue e xs) (sym c.keep.ensures.kept) (others_changed e (λ note. (false, note.1)) xs);
      due = ap (due_of e) c.keep.ensures.kept ∙ due_of-with_kept e false xs;
      kept = (
        λ h. absurd (kept_no_more e xs (sym (ap (kept_of e) c.keep.ensures.kept) ∙ h)),
        λ h. (let bad = sym c.if-is_kept.false ∙ c.is_kept.ensures.1 h in cc),
      );
    }
