use Rattle.std.proofs.Common.{◌∙◌, sym, ap, arith}
use Rattle.lw_due.specs.inner.Notes.{recounted}
use Rattle.lw_due.specs.Knots.{entries_in}
use Rattle.lw_due.proofs.CountLemmas.{fewer_kept, kept_count, kept_count-with_kept, length-changed}
use Rattle.lw_due.proofs.DueLemmas.{rising-changed}
use Rattle.lw_due.proofs.due_moments.DueMoments.keep.Goals as goal

pub recounted-self-inside-requires : goal.recounted-self-inside-requires
recounted-self-inside-requires c = λ is.
    let fewer = fewer_kept c.args.endpoint.now (entries_in c.self.inside.root) (sym c.change_note-was.ensures.was ∙ is) in
    let count = c.self.invariant.1 in
    let kept = c.self.invariant.2 in
    omega (arith, fewer, count, kept)

pub invariant_of-self : goal.invariant_of-self
invariant_of-self c =
    let e = c.args.endpoint.now in
    let xs = entries_in c.self.inside.root in
    rw c.change_note-was.ensures.changed (
      rising-changed e (λ note. (c.args.kept, note.1)) xs c.self.invariant.0,
      c.self.invariant.1 ∙ sym (length-changed e (λ note. (c.args.kept, note.1)) xs),
      c.recounted-self-inside.ensures ∙ ap (λ n. recounted n c.change_note-was.result c.args.kept) c.self.invariant.2
          ∙ ap (λ o. recounted (kept_count xs) o c.args.kept) c.change_note-was.ensures.was ∙ sym (kept_count-with_kept e c.args.kept xs),
    )
