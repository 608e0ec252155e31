use Rattle.std.proofs.Common.{◌≡◌, ℕ, List, ◌++◌, map}
use Rattle.lw_reg.specs.declared.slot.Slot.{Slot}
use Rattle.lw_delta.specs.Writable.{IsBegun}
use Rattle.std.specs.Vec.Iter.{into_iter_items}
use Rattle.lw_table.specs.Changes.{IsSinceIn}
use Rattle.lw_node.proofs.node.Node.delta_since.Given as goal

-- the slots so far are written, and those that are left follow
abbrev pub invariant-loop-endpoint : goal.invariant-loop-endpoint
invariant-loop-endpoint l =
    (goal.iterator-loop-endpoint).can_next l.endpoint-iterator × (goal.iterator-loop-endpoint).is_finite l.endpoint-iterator
    × record {
      done : List (List ℕ × Slot);
      since : IsSinceIn l.self.table.state l.self.table.count l.since (done ++ map (λ x. (x.0.now, x.1.now)) (into_iter_items l.endpoint-iterator));
      begun : IsBegun l.writer done;
      clock : l.writer.clock ≡ l.self.clock;
    }
