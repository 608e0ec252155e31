use Rattle.std.proofs.Common.{◌≡◌, ℕ, ◌+◌, ◌≤◌, List, length, ◌++◌}
use Rattle.std.specs.List.Sorted.{IsStrictlySortedBy}
use Rattle.lw_reg.specs.declared.slot.Slot.{Slot}
use Rattle.lw_delta.specs.Unread.{IsLeft}
use Rattle.lw_node.specs.inner.Exchange.{JoinedTo}
use Rattle.lw_node.proofs.Joining.{entry_cmp}
use Rattle.lw_node.proofs.merging.join_slots.Given as goal

-- the slots so far are joined, and those that are left follow
abbrev pub invariant-loop-next : goal.invariant-loop-next
invariant-loop-next l = record {
  done : List (List ℕ × Slot);
  rest : List (List ℕ × Slot);
  left : IsLeft l.slots rest;
  whole : IsLeft l.fn.slots (done ++ rest);
  rise : IsStrictlySortedBy entry_cmp (done ++ rest);
  counted : length done ≡ l.joined;
  fits : l.joined + length l.slots.bytes ≤ length l.fn.slots.bytes;
  joined_to : JoinedTo l.fn.table done l.table;
}

abbrev pub decreases-loop-next : goal.decreases-loop-next
decreases-loop-next l = length l.slots.bytes
