use Rattle.std.proofs.Common.{refl, arith, ◌<◌, length}
use Rattle.std.proofs.lemmas.Option.{slice_get_read, slice_get_within}
use Rattle.lw_held.specs.History.{IsVolume}
use Rattle.lw_held.proofs.Longer.{each_more}
use Rattle.lw_held.proofs.shelf.are_legal.Goals as goal

pub loop-volume-preserved : goal.loop-volume-preserved
loop-volume-preserved c =
    let item = slice_get_read _ _ _ _ refl c.loop-volume-test.true c.volume-item.is in
    each_more IsVolume _ _ c.volume-item.result item c.legal.ensures c.loop-volume.invariant

pub returns : goal.returns
returns c = λ i volume at.
    let l : i < length c.args.volumes.now = slice_get_within c.args.volumes.now i volume at in
    c.loop-volume.invariant i volume (omega (arith, l, c.loop-volume-test.false, c.loop-volume.auto.volume-index-end)) at
