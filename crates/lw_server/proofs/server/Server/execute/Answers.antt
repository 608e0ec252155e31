use Rattle.lw_server.proofs.Reached.{executes, refuses}
use Rattle.lw_server.proofs.server.Server.execute.Goals as goal

pub returns-in-Err : goal.returns-in-Err
returns-in-Err g c = refuses _ _ _ c.in-Err.fault c.in-Err.ensures.refused

pub returns-in-Ok : goal.returns-in-Ok
returns-in-Ok g c =
    let read = c.in-Ok.ensures.read in
    executes _ _ _ _ read.0 _ read.1 c.execute_now.ensures.executed c.execute_now.ensures.own c.execute_now.ensures.failed
