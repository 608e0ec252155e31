use Rattle.std.proofs.Common.{ap, sym, ◌∙◌, ◌∷◌}
use Rattle.lw_recent.specs.Entries.{places_in}
use Rattle.lw_recent.proofs.EntryLemmas.{first_shown, first_hidden}
use Rattle.lw_recent.proofs.since.SinceIterator.next.Goals as goal

pub loop-first-preserved : goal.loop-first-preserved
loop-first-preserved c = sym (first_hidden c.in-Some.first.now c.in-Some.rest.now c.in_default-place.is) ∙ ap places_in (sym c.in-Some.ensures.cases.0) ∙ c.loop-first.invariant

pub returns-in-Some-place-clause-steps : goal.returns-in-Some-place-clause-steps
returns-in-Some-place-clause-steps c =
    sym c.self.view_is ∙ sym c.loop-first.invariant ∙ ap places_in c.in-Some.ensures.cases.0
    ∙ first_shown c.in-Some.first.now c.in-Some.rest.now c.in-Some-place.place c.in-Some-place.is
