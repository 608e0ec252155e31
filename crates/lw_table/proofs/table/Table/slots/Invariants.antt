use Rattle.std.proofs.Common.{◌≡◌, ◌++◌}
use Rattle.std.specs.Prelude.{map}
use Rattle.std.specs.Vec.Iter.{into_iter_items}
use Rattle.lw_table.specs.inner.Since.{slots_at}
use Rattle.lw_table.proofs.table.Table.slots.Given as goal

-- the slots, and those of the endpoints that are left, are all
abbrev pub invariant-loop-endpoint : goal.invariant-loop-endpoint
invariant-loop-endpoint l =
    (goal.iterator-loop-endpoint).can_next l.endpoint-iterator × (goal.iterator-loop-endpoint).is_finite l.endpoint-iterator
    × (map (λ x. (x.0.now, x.1.now)) l.slots.items ++ slots_at l.self.state (map (λ e. e.now) (into_iter_items l.endpoint-iterator)) ≡ slots_at l.self.state (map (λ e. e.now) l.fn.endpoints.items))
