use Rattle.std.proofs.Common.{◌≡◌, ◌∙◌, Option, Some, None, min, refl, sym, ap}
use Rattle.std.specs.Option.{is_some, option_map}
use Rattle.lw_due.specs.Due.{Note, note_of}
use Rattle.lw_due.specs.Knots.{entries_in}
use Rattle.lw_due.proofs.CountLemmas.{kept_count-lowered, length-changed}
use Rattle.lw_due.proofs.DueLemmas.{rising-changed}
use Rattle.lw_due.proofs.due_moments.DueMoments.lower_there.Goals as goal

pub invariant_of-self : goal.invariant_of-self
invariant_of-self c =
    let e = c.args.endpoint.now in
    let xs = entries_in c.self.inside.root in
    rw c.change_note.ensures.changed (
      rising-changed e (λ note. (note.0, min note.1 c.args.due)) xs c.self.invariant.0,
      c.self.invariant.1 ∙ sym (length-changed e (λ note. (note.0, min note.1 c.args.due)) xs),
      c.self.invariant.2 ∙ sym (kept_count-lowered e c.args.due xs),
    )

some_noted : (o : Option Note) → is_some (option_map (λ (note : Note). note.0) o) ≡ is_some o
some_noted None = refl
some_noted (Some note) = refl

pub returns-clause-there : goal.returns-clause-there
returns-clause-there c =
    let e = c.args.endpoint.now in
    c.is_some.ensures ∙ ap is_some c.change_note.ensures.was ∙ some_noted (note_of e (entries_in c.self.inside.root)) ∙ ap (λ xs. is_some (note_of e xs)) c.self.view_is
