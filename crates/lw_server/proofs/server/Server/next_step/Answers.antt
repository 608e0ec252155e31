use Rattle.lw_server.proofs.Turns.{writes_none, writes_same}
use Rattle.lw_server.proofs.server.Server.next_step.Goals as goal

pub returns-in_err-first-clause-own : goal.returns-in_err-first-clause-own
returns-in_err-first-clause-own g c = writes_none _

pub returns-in-None-clause-own : goal.returns-in-None-clause-own
returns-in-None-clause-own g c = writes_same _ _ c.step_requests.ensures.replica
