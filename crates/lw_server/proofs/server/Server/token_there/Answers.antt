use Rattle.lw_server.proofs.Steps.{token_in}
use Rattle.lw_server.proofs.server.Server.token_there.Goals as goal

pub returns : goal.returns
returns g c = token_in _ _ _ _ _ _ c.self.view_is c.in-Some.ensures.some.0 c.token_on.ensures
