use Rattle.std.proofs.Common.{◌≡◌, ◌<◌, ◌≤◌, false, true, length, refl, sym, subst, arith}
use Rattle.std.proofs.lemmas.Option.{slice_get_read}
use borrow.Author.Count.{below_more}
use Rattle.lw_held.specs.Agree.{IsEntryAt}
use Rattle.lw_held.specs.History.{VolumeContent}
use Rattle.lw_held.specs.inner.Looks.{HasPart}
use Rattle.lw_held.proofs.Agreement.{same_some}
use Rattle.lw_held.proofs.agreeing.volume_within.Goals as goal

pub loop-index-preserved : goal.loop-index-preserved
loop-index-preserved c =
    let within : c.loop-index.index < length c.args.volumes.now = omega (arith, c.loop-index-test.true, c.requires) in
    let item = slice_get_read _ _ _ _ refl within c.index-volumes-index.is in
    λ i from lt has.
    below_more (λ k. c.args.start ≤ k → HasPart c.args.node c.args.volumes.now c.args.part.now k → ⊥) c.loop-index.index
    (λ k l a h. c.loop-index.invariant k a l h)
    (λ a h.
    let same : c.index-volumes-index.result ≡ h.0 = same_some c.index-volumes-index.result h.0 _ item h.1.0 in
    let no : false ≡ true = c.if-is_in.ensures.1 (subst (λ (x : VolumeContent). (x.opening.number ≡ c.args.node) × IsEntryAt x.first x.entries c.args.part.now.place c.args.part.now.entry) (sym same) (h.1.1, h.2)) in cc)
    i lt from has

pub returns-then-is_in-clause-found : goal.returns-then-is_in-clause-found
returns-then-is_in-clause-found c =
    let within : c.loop-index.index < length c.args.volumes.now = omega (arith, c.loop-index-test.true, c.requires) in
    let item = slice_get_read _ _ _ _ refl within c.index-volumes-index.is in
    let found = c.if-is_in.ensures.0 refl in
    (c.index-volumes-index.result, (item, found.0), found.1)

pub returns-clause-none : goal.returns-clause-none
returns-clause-none c = λ i from lt has.
    let below : i < c.loop-index.index = omega (arith, lt, c.loop-index-test.false) in c.loop-index.invariant i from below has
