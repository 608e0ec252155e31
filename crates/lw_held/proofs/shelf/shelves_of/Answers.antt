use Rattle.std.proofs.Common.{rules, ◌≡◌, ◌+◌, length, vec_len}
use Rattle.lw_held.proofs.Longer.{in_order_longer}
use Rattle.lw_held.proofs.shelf.shelves_of.Goals as goal

pub loop-place-preserved : goal.loop-place-preserved
loop-place-preserved c =
    let next : c.new.result.number ≡ length c.loop-place.shelves.items + 1 = search rules in
    let count : vec_len c.push.new.self ≡ c.loop-place.place + 1 = search rules in
    record { count = count; in_order = in_order_longer c.loop-place.shelves.items c.push.new.self.items c.new.result c.loop-place.invariant.in_order c.in_ok-push.ensures.items next }
