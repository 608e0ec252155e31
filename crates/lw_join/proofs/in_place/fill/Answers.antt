use Rattle.std.proofs.Common.{ap, ◌∙◌, ◌≡◌, ◌++◌, ◌∷◌, [], length, vec_capacity, arith}
use Rattle.lw_stamp.specs.Order.{IsExactOrder}
use Rattle.lw_join.specs.EntriesLaws.{Rises-put}
use Rattle.lw_join.proofs.Edits.{room_after, joined_after}
use Rattle.lw_join.proofs.in_place.fill.Goals as goal

pub loop-key-preserved : goal.loop-key-preserved
loop-key-preserved g c =
    let order : IsExactOrder g.K.Ord.cmp = record { total = g.met.K.Ord.total; exact = g.met.K.Exact.exact } in
    let join = g.J.Join.join in
    let xs = c.loop-key.into.items in
    let ys = c.loop-key.from.items in
    let zs = c.pop.new.self.items in
    let kept = c.loop-key.invariant in
    let split : ys ≡ zs ++ (c.in-Some.key, c.in-Some.value) ∷ [] = c.in-Some.ensures.items in
    let room = room_after order join xs ys zs c.in-Some.key c.in-Some.value (vec_capacity c.loop-key.into) split kept.rises (omega (arith, c.loop-key.into.ok.0, kept.room)) in
    record {
      rises = rw c.put_entry.ensures.items (Rises-put order join c.in-Some.key c.in-Some.value xs kept.rises);
      room = rw c.put_entry.ensures.items (omega (arith, room, c.put_entry.new.into.ok.0, ap length c.put_entry.ensures.items, c.put_entry.ensures.capacity));
      joined = rw c.put_entry.ensures.items (joined_after order join xs ys zs c.in-Some.key c.in-Some.value split ∙ kept.joined);
    }
