-- How a delta is read and checked, slot by slot.
use Rattle.std.specs.Prelude.{◌≡◌, ℕ, ◌⊎◌, List, Result, Ok, Err}
use Rattle.lw_reg.specs.declared.slot.Slot.{Slot}
use Rattle.lw_delta.specs.declared.fault.DeltaFault.{DeltaFault}
use Rattle.lw_delta.specs.declared.fault.DeltaFault.TheVariants.{NoMemory}
use Rattle.lw_delta.specs.Delta.{DeltaContent, IsSpelling, IsFault}

-- what is known of an answer: the clock of a delta, or the fault
abbrev pub Checks : List ℕ → Result ℕ DeltaFault → Type 0
Checks bytes (Ok clock) = (slots : List (List ℕ × Slot)) × IsSpelling bytes (record { clock = clock; slots = slots })
Checks bytes (Err fault) = IsFault bytes fault

-- a delta, or want of memory in its place, or the fault
abbrev pub Reads : List ℕ → Result DeltaContent DeltaFault → Type 0
Reads bytes (Ok d) = IsSpelling bytes d
Reads bytes (Err fault) = ((fault ≡ NoMemory) × (d : DeltaContent) × IsSpelling bytes d) ⊎ IsFault bytes fault
