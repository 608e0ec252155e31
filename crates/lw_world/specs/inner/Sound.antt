-- What is kept along a run beside its history: the world is that of the history, and the delta of each message is what
-- the operations that it brings tell of its endpoints.
use Rattle.std.specs.Prelude.{◌≡◌, ℕ, suc, List, Some, Contains}
use Rattle.std.specs.FinMap.{get}
use Rattle.lw_reg.specs.declared.op.Op.{Op}
use Rattle.lw_reg.specs.declared.slot.Slot.{Slot}
use Rattle.lw_delta.specs.Delta.{IsSpelling}
use Rattle.lw_world.specs.declared.event.Action.{Action}
use Rattle.lw_world.specs.declared.outcome.Outcome.{Outcome}
use Rattle.lw_world.specs.Known.{Message, known_state, about, names_of}
use Rattle.lw_world.specs.Run.{History, Happens}
use Rattle.lw_world.specs.World.{WorldContent, world_of, bytes_of}

pub record IsSound (m : Message) : Type 0 where
  pub known : List Op
  pub operations_are : m.operations ≡ about (names_of m.delta.slots) known
  pub slots : (e : List ℕ) (slot : Slot) → Contains m.delta.slots (e, slot) → get (known_state known) e ≡ Some slot
  pub spelled : IsSpelling (bytes_of m) m.delta

abbrev pub AreSound : List Message → Type 0
AreSound messages = (m : Message) → Contains messages m → IsSound m

pub record Keeps (h : History) (world : WorldContent) : Type 0 where
  pub world_is : world ≡ world_of h
  pub sound : AreSound h.messages

-- what the node at the place does, with this outcome, to a world that a history tells of
abbrev pub Makes : WorldContent → ℕ → Action → Outcome → WorldContent → Type 0
Makes old place action outcome new =
    (h : History) → Keeps h old → (next : History) × Happens h (record { node = suc place; action = action }) outcome next × Keeps next new
