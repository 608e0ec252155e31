use Rattle.std.proofs.Common.{refl}
use Rattle.lw_server.proofs.Steps.{closes_by}
use Rattle.lw_server.proofs.Turns.{writes_none}
use Rattle.lw_server.proofs.server.Server.close_all.Goals as goal

pub returns-clause-closed : goal.returns-clause-closed
returns-clause-closed g c =
    closes_by _ _ _ _ _ _ _ _ _ c.self.view_is c.in_ok-calls.ensures c.deref.ensures.value c.in_ok-replies.ensures.round
    c.deref-2.ensures.value c.deref-3.ensures.value c.count.ensures c.deref-4.ensures.value c.in_ok-had_memory.ensures
    c.close_all.ensures refl

pub returns-in_err-calls-clause-own : goal.returns-in_err-calls-clause-own
returns-in_err-calls-clause-own g c = writes_none _
