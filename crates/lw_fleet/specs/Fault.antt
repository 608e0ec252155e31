-- The lines that the program writes on standard error.
use Rattle.std.specs.Prelude.{ℕ, List, codes, Bool, true, false, Option}
use Rattle.std.specs.Io.KnownBytes.{Appends}
use Rattle.lw_fleet.specs.declared.fault.Fault.{Fault}
use Rattle.lw_fleet.specs.declared.fault.Fault.TheVariants.{AddressRefused, ReadFailed, TooLong, HexRefused, LineRefused, WriteFailed, NoMemory}
use Rattle.lw_serve.specs.Ending.{AppendsFront}
use Rattle.lw_fleet.specs.Output.{numbered}

-- the line of a fault, with its line feed
abbrev pub fault_line : Fault → List ℕ
fault_line AddressRefused = codes "address refused\n"
fault_line ReadFailed = codes "read failed\n"
fault_line TooLong = codes "script too long\n"
fault_line HexRefused = codes "hex refused\n"
fault_line (LineRefused line) = numbered (codes "line ") line (codes " refused\n")
fault_line WriteFailed = codes "write failed\n"
fault_line NoMemory = codes "no memory\n"

-- all of the line was taken, or a front of it
abbrev pub IsTold : Fault → Bool → Option (List ℕ) → Option (List ℕ) → Type 0
IsTold fault true before after = Appends before after (fault_line fault)
IsTold fault false before after = AppendsFront before after (fault_line fault)
