use Rattle.lw_server.proofs.Turns.{writes_none, writes_same}
use Rattle.lw_server.proofs.server.Server.carry_out_first.Goals as goal

pub returns-in-End-clause-own : goal.returns-in-End-clause-own
returns-in-End-clause-own g c = writes_same _ _ c.end.ensures.replica

pub returns-in-Check-clause-own : goal.returns-in-Check-clause-own
returns-in-Check-clause-own g c = writes_same _ _ c.check.ensures.replica

pub returns-in-Cut-clause-own : goal.returns-in-Cut-clause-own
returns-in-Cut-clause-own g c = writes_same _ _ c.cut.ensures.replica
