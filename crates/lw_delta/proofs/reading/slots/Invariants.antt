use Rattle.std.proofs.Common.{ℕ, List, length, ◌++◌}
use Rattle.lw_reg.specs.declared.slot.Slot.{Slot}
use Rattle.lw_delta.specs.Unread.{IsLeft}
use Rattle.lw_delta.proofs.reading.slots.Given as goal

-- the slots so far, and those that are left, are all
abbrev pub invariant-loop-slots : goal.invariant-loop-slots
invariant-loop-slots l = record {
  rest : List (List ℕ × Slot);
  left : IsLeft l.reader rest;
  whole : IsLeft l.fn.reader (l.slots.items ++ rest);
}

abbrev pub decreases-loop-slots : goal.decreases-loop-slots
decreases-loop-slots l = length l.reader.bytes
