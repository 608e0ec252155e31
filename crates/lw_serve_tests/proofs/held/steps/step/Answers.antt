use Rattle.std.proofs.Common.{Some, refl, length, ap, ◌∙◌, slice_index_or}
use Rattle.std.proofs.lemmas.Option.{slice_get_read}
use Rattle.lw_held.specs.History.{Enters}
use Rattle.lw_held.specs.Transcript.{Transcript}
use Rattle.lw_serve_tests.proofs.Keeping.{number_kept, first_kept, distinct_kept}
use Rattle.lw_serve_tests.proofs.held.steps.step.Goals as goal

pub returns-in-Ok : goal.returns-in-Ok
returns-in-Ok g c =
    let lent = slice_index_or c.args.passes.now c.args.pass c.index-passes-pass.result in
    distinct_kept c.args.passes.now c.args.pass lent c.step-placed.new.self (slice_get_read _ _ _ _ refl c.if-pass-passes.false c.index-passes-pass.is ∙ ap (λ (x : Transcript). Some x) c.index-passes-pass.is)
    (number_kept 1 (λ place entry. Enters c.args.held.now lent.number (length lent.parts) c.in_ok-made.made entry place c.step-placed.new.held) c.step-placed.result lent c.step-placed.new.self c.step-placed.ensures.entered (first_kept _ _ _ c.step-placed.ensures.unchanged))
    c.requires
