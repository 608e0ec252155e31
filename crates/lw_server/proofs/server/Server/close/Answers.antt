use Rattle.lw_server.proofs.Turns.{writes_same}
use Rattle.lw_server.proofs.server.Server.close.Goals as goal

pub returns-then-is_over-clause-own : goal.returns-then-is_over-clause-own
returns-then-is_over-clause-own g c = writes_same _ _ c.tell_end.ensures.replica
