use Rattle.std.proofs.Common.{refl}
use Rattle.lw_server.proofs.Reached.{reads_clock}
use Rattle.lw_server.proofs.server.Server.read_clock.Goals as goal

pub returns-clause-read : goal.returns-clause-read
returns-clause-read g c =
    reads_clock _ _ _ _ c.in-Some.times c.self.view_is c.in-Some.is c.read.ensures refl c.later-self-inside.ensures
