use Rattle.lw_server.proofs.Turns.{writes_none}
use Rattle.lw_server.proofs.server.Server.report.Goals as goal

pub returns-in_err-notice-clause-own : goal.returns-in_err-notice-clause-own
returns-in_err-notice-clause-own g c = writes_none _

pub returns-in_err-bytes-clause-own : goal.returns-in_err-bytes-clause-own
returns-in_err-bytes-clause-own g c = writes_none _
