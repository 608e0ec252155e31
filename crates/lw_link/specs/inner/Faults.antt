-- A list of links that is refused.
use Rattle.std.specs.Prelude.{◌≡◌, ℕ, ◌⊎◌, List}
use Rattle.lw_link.specs.declared.fault.LinkFault.{LinkFault}
use Rattle.lw_link.specs.declared.fault.LinkFault.TheVariants.{NoMemory}
use Rattle.lw_link.specs.Faults.{IsFault, IsRead}

-- a fault of the bytes, or want of memory in place of their links
abbrev pub IsRefused : List ℕ → LinkFault → Type 0
IsRefused bytes fault = ((fault ≡ NoMemory) × IsRead bytes) ⊎ IsFault bytes fault
