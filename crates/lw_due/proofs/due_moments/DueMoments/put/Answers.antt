use Rattle.std.proofs.Common.{◌∙◌, ◌+◌, cond, ℕ, sym, ap, arith}
use Rattle.lw_due.specs.Due.{note_of}
use Rattle.lw_due.specs.Knots.{entries_in}
use Rattle.lw_due.proofs.CountLemmas.{kept_at_most, kept_count-with_entry, length-with_entry}
use Rattle.lw_due.proofs.DueLemmas.{rising-with_entry}
use Rattle.lw_due.proofs.due_moments.DueMoments.put.Goals as goal

pub put-requires-clause-rising : goal.put-requires-clause-rising
put-requires-clause-rising c = rw c.take.ensures.value c.self.invariant.0

pub put-requires-clause-absent : goal.put-requires-clause-absent
put-requires-clause-absent c = rw (c.take.ensures.value, c.self.view_is) c.requires.absent

pub recounted-self-inside-requires : goal.recounted-self-inside-requires
recounted-self-inside-requires c = λ is.
    let most = kept_at_most (entries_in c.self.inside.root) in
    let count = c.self.invariant.1 in
    let kept = c.self.invariant.2 in
    omega (arith, most, count, kept)

pub invariant_of-self : goal.invariant_of-self
invariant_of-self c =
    let e = c.args.endpoint.now in
    let xs = entries_in c.self.inside.root in
    let absent = ap (note_of e) c.self.view_is ∙ c.requires.absent in
    rw (c.put.ensures, c.take.ensures.value) (
      rising-with_entry e _ xs c.self.invariant.0,
      ap (λ (n : ℕ). n + 1) c.self.invariant.1 ∙ sym (length-with_entry e (c.args.kept, c.args.due) xs absent),
      c.recounted-self-inside.ensures ∙ ap (λ (n : ℕ). n + cond c.args.kept 1 0) c.self.invariant.2 ∙ sym (kept_count-with_entry e (c.args.kept, c.args.due) xs absent),
    )
