-- What `serve` writes, and the lines of its faults.
use Rattle.std.specs.Prelude.{◌++◌, ℕ, List, [], codes, Bool, true, false, Option}
use Rattle.std.specs.Io.KnownBytes.{Appends, Keeps}
use Rattle.lw_crew.specs.Gather.{number_of}
use Rattle.lw_serve.specs.Ending.{settled_line, IsStopped}
use Rattle.lw_serve.specs.declared.fault.ServeFault.{ServeFault}
use Rattle.lw_serve.specs.declared.fault.ServeFault.TheVariants.{ReceiveFailed, ClockRefused, Crew, Unsettled, WriteFailed, NoMemory}
use Rattle.lw_fleet.specs.declared.serving.ServingFault.{ServingFault}
use Rattle.lw_fleet.specs.declared.serving.ServingFault.TheVariants.{BindFailed, Run}
use Rattle.lw_serve.specs.Ending.{AppendsFront}
use Rattle.lw_fleet.specs.Output.{numbered}

-- the line of a fault of a run, with its line feed
abbrev pub run_line : ServeFault → List ℕ
run_line ReceiveFailed = codes "receive failed\n"
run_line ClockRefused = codes "clock refused\n"
run_line (Crew fault) = numbered (codes "crew fault ") (number_of fault) (codes "\n")
run_line (Unsettled node place) = numbered (codes "unsettled ") node (codes " ") ++ numbered [] place (codes "\n")
run_line WriteFailed = codes "write failed\n"
run_line NoMemory = codes "no memory\n"

-- the line of a fault of serving
abbrev pub serving_line : ServingFault → List ℕ
serving_line BindFailed = codes "bind failed\n"
serving_line (Run fault) = run_line fault

-- all of the line was taken, or a front of it
abbrev pub IsServingTold : ServingFault → Bool → Option (List ℕ) → Option (List ℕ) → Type 0
IsServingTold fault true before after = Appends before after (serving_line fault)
IsServingTold fault false before after = AppendsFront before after (serving_line fault)

-- the line of a settled run is appended
abbrev pub IsServed : Option (List ℕ) → Option (List ℕ) → Type 0
IsServed before after = Appends before after settled_line

-- serving stopped at a fault: nothing is written, or a front of the line where the writer failed
abbrev pub IsUnserved : ServingFault → Option (List ℕ) → Option (List ℕ) → Type 0
IsUnserved BindFailed before after = Keeps before after
IsUnserved (Run fault) before after = IsStopped fault before after
