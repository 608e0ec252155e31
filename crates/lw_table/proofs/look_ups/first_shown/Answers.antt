use Rattle.std.proofs.Common.{ℕ, subst, sym}
use Rattle.std.specs.Prelude.{◌↔◌, Contains}
use Rattle.lw_index.specs.Places.{IsPlaceOf}
use Rattle.lw_stamp.specs.Moment.{ms_of}
use Rattle.lw_table.specs.inner.Found.{view_with}
use Rattle.lw_table.proofs.PlaceLemmas.{view_total, walk_ends, walk_goes, walk_starts}
use Rattle.lw_table.proofs.look_ups.first_shown.Goals as goal

pub loop-place-init : goal.loop-place-init
loop-place-init c =
    (tt, tt, walk_starts c.args.rows.now c.requires view_total (view_with (ms_of c.args.now)) c.args.keys.now c.args.key c.into_iter-place-iterator.result (subst (λ l. (p : ℕ) → Contains l p ↔ IsPlaceOf c.args.keys.now c.args.key p) (sym c.into_iter-place-iterator.ensures.into_iter_gives) c.of-place-items.ensures))

pub loop-place-preserved : goal.loop-place-preserved
loop-place-preserved c =
    (tt, tt, walk_goes c.args.rows.now c.requires view_total (view_with (ms_of c.args.now)) c.args.keys.now c.args.key c.in-Some.place c.next.new.self c.loop-place.place-iterator c.loop-place.first c.view_there.result c.lesser-first.result c.in-Some.ensures.steps c.view_there.ensures c.lesser-first.ensures c.loop-place.invariant.2)

pub returns : goal.returns
returns c = walk_ends c.args.rows.now c.requires view_total (view_with (ms_of c.args.now)) c.args.keys.now c.args.key c.loop-place.place-iterator c.loop-place.first c.in-None.ensures.steps.0 c.loop-place.invariant.2
