-- What a fault of a replica is to a turn and to a run.
use Rattle.lw_log.specs.declared.log_fault.LogFault.TheVariants as log_faults
use Rattle.lw_replica.specs.declared.fault.ReplicaFault.{ReplicaFault}
use Rattle.lw_replica.specs.declared.fault.ReplicaFault.TheVariants as faults
use Rattle.lw_server.specs.declared.fault.RunFault.{RunFault}
use Rattle.lw_server.specs.declared.fault.RunFault.TheVariants as ends
use Rattle.lw_server.specs.declared.fault.TurnFault.{TurnFault}
use Rattle.lw_server.specs.declared.fault.TurnFault.TheVariants as turns

-- a log that is unavailable, or that has lost what was appended last; want of memory is one thing
abbrev pub turn_fault_of : ReplicaFault → TurnFault
turn_fault_of (faults.Log log_faults.Unavailable) = turns.Unavailable
turn_fault_of (faults.Log log_faults.Lost) = turns.Lost
turn_fault_of (faults.Log log_faults.NoMemory) = turns.NoMemory
turn_fault_of faults.NoMemory = turns.NoMemory
turn_fault_of fault = turns.Replica fault

-- what a run ends by
abbrev pub end_of : ReplicaFault → RunFault
end_of (faults.Log log_faults.NoMemory) = ends.NoMemory
end_of (faults.Log fault) = ends.LogRefused
end_of faults.AnotherFleet = ends.AnotherFleet
end_of faults.LogCut = ends.LogCut
end_of faults.LogNewer = ends.LogNewer
end_of faults.NumberTaken = ends.NumberTaken
end_of faults.NumbersEnded = ends.NumbersEnded
end_of faults.ClockAhead = ends.ClockRefused
end_of faults.NoMemory = ends.NoMemory
