use Rattle.std.proofs.Common.{ℕ, subst, sym}
use Rattle.std.specs.Prelude.{◌↔◌, Contains}
use Rattle.lw_index.specs.Places.{IsPlaceOf}
use Rattle.lw_stamp.specs.Moment.{ms_of}
use Rattle.lw_table.specs.inner.Found.{holder_with}
use Rattle.lw_table.proofs.PlaceLemmas.{holder_total, walk_ends, walk_goes, walk_starts}
use Rattle.lw_table.proofs.look_ups.last_holder.Goals as goal

pub loop-place-init : goal.loop-place-init
loop-place-init c =
    (tt, tt, walk_starts c.args.rows.now c.requires holder_total (holder_with (ms_of c.args.now)) c.args.keys.now c.args.key c.into_iter-place-iterator.result (subst (λ l. (p : ℕ) → Contains l p ↔ IsPlaceOf c.args.keys.now c.args.key p) (sym c.into_iter-place-iterator.ensures.into_iter_gives) c.of-place-items.ensures))

pub loop-place-preserved : goal.loop-place-preserved
loop-place-preserved c =
    (tt, tt, walk_goes c.args.rows.now c.requires holder_total (holder_with (ms_of c.args.now)) c.args.keys.now c.args.key c.in-Some.place c.next.new.self c.loop-place.place-iterator c.loop-place.last c.holder_there.result c.later-last.result c.in-Some.ensures.steps c.holder_there.ensures c.later-last.ensures c.loop-place.invariant.2)

pub returns : goal.returns
returns c = walk_ends c.args.rows.now c.requires holder_total (holder_with (ms_of c.args.now)) c.args.keys.now c.args.key c.loop-place.place-iterator c.loop-place.last c.in-None.ensures.steps.0 c.loop-place.invariant.2
