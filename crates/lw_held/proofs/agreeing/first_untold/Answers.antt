use Rattle.std.proofs.Common.{◌≡◌, ◌+◌, false, true, refl, arith}
use Rattle.std.proofs.lemmas.Option.{slice_get_read, slice_get_within}
use borrow.Author.Count.{below_more}
use Rattle.lw_held.specs.inner.Looks.{IsTold}
use Rattle.lw_held.proofs.Agreement.{told_at}
use Rattle.lw_held.proofs.agreeing.first_untold.Goals as goal

pub loop-index-init : goal.loop-index-init
loop-index-init c = λ q lt entry at. absurd (let is = at.1 in omega (arith, lt, is))

pub loop-index-preserved : goal.loop-index-preserved
loop-index-preserved c =
    let here = slice_get_read _ _ _ _ refl c.loop-index-test.true c.index-entries-index.is in
    λ q lt. below_more (λ p. IsTold c.args.node c.args.first c.args.entries.now c.args.passes.now p) (c.args.first + c.loop-index.index) c.loop-index.invariant
    (told_at c.args.node c.args.first c.args.entries.now c.args.passes.now c.loop-index.index c.index-entries-index.result here (c.if-not-is_told.ensures.0 refl)) q (omega (arith, lt))

pub returns-then-not-is_told : goal.returns-then-not-is_told
returns-then-not-is_told c =
    let here = slice_get_read _ _ _ _ refl c.loop-index-test.true c.index-entries-index.is in
    ((λ told. let no : false ≡ true = c.if-not-is_told.ensures.1 (told c.index-entries-index.result (c.loop-index.index, refl, here)) in cc), c.loop-index.invariant)

pub returns : goal.returns
returns c = λ p entry at.
    let within = slice_get_within c.args.entries.now at.0 entry at.2 in
    let is = at.1 in
    c.loop-index.invariant p (omega (arith, within, is)) entry at
