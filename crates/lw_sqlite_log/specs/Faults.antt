-- What a failure of the system or of the database is, where a log is opened.
use Rattle.std.specs.declared.io.ErrorKind.{ErrorKind}
use Rattle.std.specs.declared.io.ErrorKind.TheVariants.{OutOfMemory as KindOutOfMemory}
use Rattle.sqlite.specs.declared.error.ErrorCode.{ErrorCode}
use Rattle.sqlite.specs.declared.error.ErrorCode.TheVariants.{DatabaseBusy, OutOfMemory, CannotOpen, SystemIoFailure}
use Rattle.sqlite.specs.declared.error.ErrorCode.TheVariants.{DiskFull, Closed}
use Rattle.sqlite.specs.declared.error.Error.{Error}
use Rattle.sqlite.specs.declared.error.Error.TheVariants.{SqliteFailure}
use Rattle.lw_sqlite_log.specs.declared.open_fault.OpenFault.{OpenFault}
use Rattle.lw_sqlite_log.specs.declared.open_fault.OpenFault.TheVariants.{InUse, Damaged, Failed, NoMemory}

-- the folder was not made
abbrev pub fault_of_kind : ErrorKind → OpenFault
fault_of_kind KindOutOfMemory = NoMemory
fault_of_kind _ = Failed

-- the database failed
abbrev pub fault_of_code : ErrorCode → OpenFault
fault_of_code DatabaseBusy = InUse
fault_of_code OutOfMemory = NoMemory
fault_of_code CannotOpen = Failed
fault_of_code SystemIoFailure = Failed
fault_of_code DiskFull = Failed
fault_of_code Closed = Failed
fault_of_code _ = Damaged

-- the file was not opened; a statement that cannot be run, or a value of another type, is of another file
abbrev pub fault_of : Error → OpenFault
fault_of (SqliteFailure code) = fault_of_code code
fault_of _ = Damaged
