use Rattle.std.proofs.Common.{◌≡◌, ◌≤◌, false, true, refl, sym, subst, arith}
use Rattle.std.proofs.lemmas.Option.{slice_get_read, slice_get_within}
use borrow.Author.Count.{below_more}
use Rattle.lw_held.specs.Agree.{Covers, IsVolumeOf}
use Rattle.lw_held.specs.History.{VolumeContent}
use Rattle.lw_held.proofs.Agreement.{same_some}
use Rattle.lw_held.proofs.laying.covering.Goals as goal

pub returns-then-has_place-clause-first : goal.returns-then-has_place-clause-first
returns-then-has_place-clause-first c =
    let item = slice_get_read _ _ _ _ refl c.loop-index-test.true c.index-volumes-index.is in
    let found = c.if-has_place.ensures.0 refl in
    (c.loop-index.auto.index, (c.index-volumes-index.result, (item, found.0), found.1), c.loop-index.invariant)

pub loop-index-preserved : goal.loop-index-preserved
loop-index-preserved c =
    let item = slice_get_read _ _ _ _ refl c.loop-index-test.true c.index-volumes-index.is in
    λ j volume from lt is covers.
    below_more (λ i. (v : VolumeContent) → c.args.start ≤ i → IsVolumeOf c.args.node c.args.volumes.now i v → Covers v c.args.place → ⊥) c.loop-index.index
    (λ i l v a own has. c.loop-index.invariant i v a l own has)
    (λ v a own has.
    let same : c.index-volumes-index.result ≡ v = same_some c.index-volumes-index.result v _ item own.0 in
    let no : false ≡ true = c.if-has_place.ensures.1 (subst (λ (x : VolumeContent). (x.opening.number ≡ c.args.node) × Covers x c.args.place) (sym same) (own.1, has)) in cc)
    j lt volume from is covers

pub returns-clause-first : goal.returns-clause-first
returns-clause-first c = λ j volume from is covers.
    c.loop-index.invariant j volume from (let within = slice_get_within c.args.volumes.now j volume is.0 in omega (arith, within)) is covers
