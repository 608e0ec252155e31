use Rattle.std.proofs.Common.{◌≡◌, None, Some, false, true, refl, sym, subst, ◌∙◌, arith}
use Rattle.std.proofs.lemmas.Option.{slice_get_read, slice_get_within}
use borrow.Author.Count.{below_more}
use Rattle.lw_held.specs.Agree.{IsLinked, IsVolumeOf, journal_of}
use Rattle.lw_held.specs.History.{VolumeContent}
use Rattle.lw_held.proofs.Agreement.{same_some}
use Rattle.lw_held.proofs.Pieces.{all_linked}
use Rattle.lw_held.proofs.laying.are_linked.Goals.{else-first-place-via-then-first-place+else-not-is_linked, else-first-place-via-else-first-place}
use Rattle.lw_held.proofs.laying.are_linked.Goals as goal

pub returns-then-not-is_linked : goal.returns-then-not-is_linked
returns-then-not-is_linked c =
    let at = sym c.first.ensures.value ∙ c.if-first-place.true in (
      λ yes. absurd (let no : false ≡ true = yes in cc),
      λ all. c.if-not-is_linked.ensures.1
          (subst (λ q. IsLinked c.args.node c.args.volumes.now q c.opening.result.now) (sym c.first-then-first-place.ensures.value)
          (subst (IsLinked c.args.node c.args.volumes.now c.args.held.now.first) (sym c.opening.ensures) (all None (journal_of c.args.held.now) refl at))),
    )

pub returns-then-not-is_volume_linked : goal.returns-then-not-is_volume_linked
returns-then-not-is_volume_linked c =
    let item = slice_get_read _ _ _ _ refl c.loop-volume-test.true c.volume-item.is in (
      λ yes. absurd (let no : false ≡ true = yes in cc),
      λ all. c.if-not-is_volume_linked.ensures.1 (λ own at. all (Some c.loop-volume.volume-index) c.volume-item.result (item, own) at),
    )

pub loop-volume-init : goal.loop-volume-init
loop-volume-init c = λ i volume lt. absurd (omega (arith, lt))

pub loop-volume-preserved : goal.loop-volume-preserved
loop-volume-preserved c =
    let item = slice_get_read _ _ _ _ refl c.loop-volume-test.true c.volume-item.is in
    λ i volume lt is at.
    below_more (λ j. (v : VolumeContent) → IsVolumeOf c.args.node c.args.volumes.now j v → v.first ≡ c.args.place → IsLinked c.args.node c.args.volumes.now v.first v.opening) c.loop-volume.volume-index
    (λ j l v own here. c.loop-volume.invariant j v l own here)
    (λ v own. subst (λ (x : VolumeContent). x.opening.number ≡ c.args.node → x.first ≡ c.args.place → IsLinked c.args.node c.args.volumes.now x.first x.opening) (same_some c.volume-item.result v _ item own.0) (c.if-not-is_volume_linked.ensures.0 refl) own.1)
    i lt volume is at

pub returns : goal.returns
returns c =
    let journal : c.args.held.now.first ≡ c.args.place → IsLinked c.args.node c.args.volumes.now c.args.held.now.first c.args.held.now.opening = elim c.else-first-place.branch [
      | else-first-place-via-then-first-place+else-not-is_linked w ↦ λ at.
          subst (λ q. IsLinked c.args.node c.args.volumes.now q c.args.held.now.opening) w.first-then-first-place.ensures.value
          (subst (IsLinked c.args.node c.args.volumes.now w.first-then-first-place.result) w.opening.ensures (w.if-not-is_linked.ensures.0 refl))
      | else-first-place-via-else-first-place w ↦ λ at. absurd (w.if-first-place.false (c.first.ensures.value ∙ at))
    ] in (
      λ yes. all_linked c.args.node c.args.volumes.now c.args.held.now c.args.place journal
          (λ i volume is at. c.loop-volume.invariant i volume (let within = slice_get_within c.args.volumes.now i volume is.0 in omega (arith, within)) is at),
      λ all. refl,
    )
