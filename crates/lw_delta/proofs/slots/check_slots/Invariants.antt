use Rattle.std.proofs.Common.{◌≡◌, ◌+◌, ◌≤◌, ℕ, List, length}
use Rattle.std.specs.Option.{option_copied}
use Rattle.lw_reg.specs.declared.slot.Slot.{Slot}
use Rattle.lw_delta.specs.Format.{slot}
use Rattle.lw_delta.proofs.Parts.{Walked}
use Rattle.lw_delta.proofs.slots.check_slots.Given as goal

abbrev pub invariant-loop-next : goal.invariant-loop-next
invariant-loop-next l = (ss : List (List ℕ × Slot)) × Walked (slot l.form l.clock) (λ s. s.0) l.bytes ss (option_copied l.after) l.rest × (l.count ≡ length ss) × (l.count + length l.rest ≤ length l.bytes)

abbrev pub decreases-loop-next : goal.decreases-loop-next
decreases-loop-next l = length l.rest
