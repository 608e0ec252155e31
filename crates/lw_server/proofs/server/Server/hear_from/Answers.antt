use Rattle.std.proofs.Common.{refl}
use Rattle.lw_server.proofs.Reached.{if_ok, is_heard_from}
use Rattle.lw_server.proofs.server.Server.hear_from.Goals as goal

pub returns-clause-heard : goal.returns-clause-heard
returns-clause-heard g c =
    if_ok _ (is_heard_from _ _ _ _ _ _ c.self.view_is c.in_ok-watch.ensures refl) c.hear.ensures.passed
