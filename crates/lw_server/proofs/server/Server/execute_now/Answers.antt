use Rattle.lw_server.proofs.Turns.{writes_none}
use Rattle.lw_server.proofs.server.Server.execute_now.Goals as goal

pub returns-then-waiting-ge-MOST_WAITING-clause-own : goal.returns-then-waiting-ge-MOST_WAITING-clause-own
returns-then-waiting-ge-MOST_WAITING-clause-own g c = writes_none _
