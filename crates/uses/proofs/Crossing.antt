-- What may cross threads: a call.
use denote.Param.Send.{IsSync, sendable}
use Rattle.std.proofs.Crossing.{crosses}
use Rattle.lw_call.proofs.call.Call.TheSendSync.{the_sync as call_sync}
use Rattle.lw_call.specs.contracts.call.Call as Call

pub call_whole : IsSync Call.the_row
call_whole = search (call_sync, sendable, crosses) depth 40
