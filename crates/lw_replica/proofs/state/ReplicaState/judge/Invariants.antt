use Rattle.std.proofs.Common.{take}
use Rattle.lw_log.specs.Calls.{placed}
use Rattle.lw_replica.specs.Reading.{IsFree, bytes_of}
use Rattle.lw_replica.proofs.state.ReplicaState.judge.Given as goal

abbrev pub invariant-loop-bytes : goal.invariant-loop-bytes
invariant-loop-bytes l = IsFree l.self.start.number (bytes_of (placed (take l.bytes-index l.page)))
