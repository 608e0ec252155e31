use Rattle.lw_server.proofs.Turns.{writes_none}
use Rattle.lw_server.proofs.one_call.call_once.Goals as goal

pub returns-in_err-calls-clause-own : goal.returns-in_err-calls-clause-own
returns-in_err-calls-clause-own g c = writes_none _
