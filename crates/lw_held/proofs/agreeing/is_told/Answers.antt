use Rattle.std.proofs.Common.{◌≡◌, ◌<◌, Some, false, true, refl, sym, subst, arith}
use Rattle.std.specs.Prelude.{slice_get}
use Rattle.std.proofs.lemmas.Option.{slice_get_read}
use borrow.Author.Count.{below_more}
use Rattle.lw_held.specs.inner.Looks.{Has}
use Rattle.lw_held.specs.Transcript.{Transcript}
use Rattle.lw_held.proofs.Agreement.{same_some}
use Rattle.lw_held.proofs.agreeing.is_told.Goals as goal

pub loop-pass-preserved : goal.loop-pass-preserved
loop-pass-preserved c =
    let item = slice_get_read _ _ _ _ refl c.loop-pass-test.true c.pass-item.is in
    λ w. below_more (λ j. (x : Transcript) → slice_get c.args.passes.now j ≡ Some x → ¬ Has c.args.node c.args.place c.args.entry.now x) c.loop-pass.pass-index
    (λ j l x at has. c.loop-pass.invariant (j, x, l, at, has))
    (λ x at has. let no : false ≡ true = c.if-has.ensures.1 (subst (λ y. Has c.args.node c.args.place c.args.entry.now y) (sym (same_some c.pass-item.result x _ item at)) has) in cc)
    w.0 w.2 w.1 w.3 w.4

pub returns-then-has : goal.returns-then-has
returns-then-has c =
    let item = slice_get_read _ _ _ _ refl c.loop-pass-test.true c.pass-item.is in
    ((λ yes. (c.loop-pass.pass-index, c.pass-item.result, c.loop-pass-test.true, item, c.if-has.ensures.0 refl)), (λ w. refl))

pub returns : goal.returns
returns c = (
  (λ yes. absurd cc),
  (λ w. let l : w.0 < c.loop-pass.pass-index = omega (arith, w.2) in absurd (c.loop-pass.invariant (w.0, w.1, l, w.3, w.4))),
)
