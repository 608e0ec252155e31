use Rattle.std.proofs.Common.{◌≡◌, true, ap, sym, ◌∙◌}
use Rattle.lw_messaging.specs.Kept.{has_room}
use Rattle.lw_messaging.proofs.BodyLemmas.{room_stays}
use Rattle.lw_messaging.proofs.kept.make_room.Goals as goal

pub returns-clause-left : goal.returns-clause-left
returns-clause-left c =
    let lent : has_room c.args.weight c.deref.result.now ≡ has_room c.args.weight c.loop-bodies.bodies.items =
    ap (has_room c.args.weight) c.deref.ensures.value in
    let room : has_room c.args.weight c.loop-bodies.bodies.items ≡ true =
    sym lent ∙ sym c.has_room.ensures ∙ c.loop-bodies-test.false in
    sym (room_stays c.args.weight c.loop-bodies.bodies.items room) ∙ c.loop-bodies.invariant.left
