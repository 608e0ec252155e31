-- Slots of a delta that are joined to a node one after another.
use Rattle.std.specs.Prelude.{◌≡◌, ℕ, ◌<◌, List, length, take, Result, Ok, Err}
use Rattle.lw_reg.specs.declared.slot.Slot.{Slot}
use Rattle.lw_reg.specs.State.{state_join}
use Rattle.lw_table.specs.Changes.{Recounts}
use Rattle.lw_table.specs.Table.{TableContent}
use Rattle.lw_call.specs.declared.merge_fault.MergeFault.{MergeFault}
use Rattle.lw_call.specs.declared.merge_fault.MergeFault.TheVariants.{Malformed, NoMemory}
use Rattle.lw_node.specs.Exchange.{state_in}

-- ---- the slots of a delta, joined to a table
pub record JoinedTo (old : TableContent) (slots : List (List ℕ × Slot)) (new : TableContent) : Type 0 where
  pub state : new.state ≡ state_join old.state (state_in slots)
  pub count : Recounts old.state new.state old.count new.count

-- all are joined, or the first, fewer than all
abbrev pub JoinsSlots : TableContent → List (List ℕ × Slot) → Result ℕ MergeFault → TableContent → Type 0
JoinsSlots old slots (Ok count) new = (count ≡ length slots) × JoinedTo old slots new
JoinsSlots old slots (Err (NoMemory joined)) new = (joined < length slots) × JoinedTo old (take joined slots) new
JoinsSlots old slots (Err (Malformed fault)) new = ⊥
