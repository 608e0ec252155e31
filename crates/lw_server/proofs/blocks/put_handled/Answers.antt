use Rattle.std.proofs.Common.{ap, ◌∙◌, refl, List, Some}
use Rattle.std.specs.Vec.Iter.{into_iter_items}
use Rattle.lw_server.specs.declared.blocks.Origin.{Origin}
use Rattle.lw_server.specs.Blocks.{made_of}
use Rattle.lw_server.proofs.Handling.{handling_begins, handling_goes_on, room_for, room_stays}
use Rattle.lw_server.proofs.blocks.put_handled.Goals as goal

pub loop-origin-init : goal.loop-origin-init
loop-origin-init c =
    let given = c.into_iter-origin-iterator.ensures.into_iter_gives.0 in
    record {
      handled = handling_begins _ _ _ _ (ap (λ (os : List Origin). made_of os (into_iter_items c.into_iter-replies.result)) given) refl;
      room = room_for _ _ _ _ _ c.requires.room c.args.origins.ok.0 given;
      capacity = refl;
    }

pub loop-origin-preserved-in-Some-handled_of : goal.loop-origin-preserved-in-Some-handled_of
loop-origin-preserved-in-Some-handled_of c =
    let first = c.in-Some.ensures.steps.0 in
    record {
      handled = handling_goes_on _ _ _ _ _ _ _ _ _ _ (Some c.in-Some-handled_of.made) first c.in-Some-next.ensures.cases.0 c.in-Some-handled_of.ensures
          c.push_reserved.ensures.items c.loop-origin.invariant.handled;
      room = room_stays _ _ _ _ _ _ _ first c.push_reserved.ensures.len c.push_reserved.ensures.capacity c.loop-origin.invariant.room;
      capacity = c.push_reserved.ensures.capacity ∙ c.loop-origin.invariant.capacity;
    }
