-- What a fault of a log is to its replica.
use Rattle.lw_log.specs.declared.log_fault.LogFault.{LogFault}
use Rattle.lw_log.specs.declared.log_fault.LogFault.TheVariants as log_faults
use Rattle.lw_replica.specs.declared.fault.ReplicaFault.{ReplicaFault}
use Rattle.lw_replica.specs.declared.fault.ReplicaFault.TheVariants.{Log, NoMemory}

abbrev pub fault_of : LogFault → ReplicaFault
fault_of log_faults.NoMemory = NoMemory
fault_of fault = Log fault
