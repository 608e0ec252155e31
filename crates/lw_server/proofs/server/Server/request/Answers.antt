use Rattle.std.proofs.Common.{refl}
use Rattle.lw_server.proofs.Reached.{if_ok, is_requested}
use Rattle.lw_server.proofs.server.Server.request.Goals as goal

pub returns-clause-requested : goal.returns-clause-requested
returns-clause-requested g c = if_ok _ (is_requested _ _ _ _ c.self.view_is refl) c.request_once.ensures.requested
