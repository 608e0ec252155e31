use Rattle.std.proofs.Common.{ap, ◌∙◌, ◌++◌, map}
use Rattle.std.specs.Vec.Iter.{into_iter_items}
use Rattle.lw_table.specs.inner.Since.{slots_at}
use Rattle.lw_table.proofs.table.Table.slots.Goals as goal

pub loop-endpoint-init : goal.loop-endpoint-init
loop-endpoint-init c = (
  tt,
  tt,
  ap (λ items. map (λ x. (x.0.now, x.1.now)) items ++ slots_at c.args.self.now.state (map (λ e. e.now) (into_iter_items c.into_iter-endpoint-iterator.result))) c.in_ok-slots.ensures.items
      ∙ ap (λ l. slots_at c.args.self.now.state (map (λ e. e.now) l)) c.into_iter-endpoint-iterator.ensures.into_iter_gives.0,
)
