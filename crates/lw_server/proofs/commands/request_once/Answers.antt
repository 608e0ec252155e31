use Rattle.lw_server.proofs.Turns.{writes_none}
use Rattle.lw_server.proofs.commands.request_once.Goals as goal

pub returns-in_err-reserve-clause-own : goal.returns-in_err-reserve-clause-own
returns-in_err-reserve-clause-own g c = writes_none _
