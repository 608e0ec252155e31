use Rattle.std.proofs.Common.{◌≡◌, ◌∙◌, ap, arith}
use Rattle.std.proofs.lemmas.Option.{get_or_from_slice_get, slice_get_within}
use borrow.Author.Count.{below_more}
use Rattle.lw_held.specs.Transcript.{Transcript}
use Rattle.lw_crew.specs.inner.Claims.{IsAt}
use Rattle.lw_crew.proofs.checking.place_of.Goals as goal

pub loop-place-preserved : goal.loop-place-preserved
loop-place-preserved c = below_more (λ k. ¬ IsAt c.args.passes.now c.args.number k) c.loop-place.place c.loop-place.invariant
    (λ (at : IsAt c.args.passes.now c.args.number c.loop-place.place).
    let e : c.index-passes-place.result ≡ at.pass = c.index-passes-place.is ∙ get_or_from_slice_get c.args.passes.now c.loop-place.place at.pass c.index-passes-place.result at.is in
    let n = ap (λ (t : Transcript). t.number) e in
    let m = at.number_is in
    omega (arith, n, m))

pub returns-clause-none : goal.returns-clause-none
returns-clause-none c = λ place at. let l = slice_get_within c.args.passes.now place at.pass at.is in c.loop-place.invariant place (omega (arith, l, c.loop-place-test.false)) at
