use Rattle.std.proofs.Common.{ap}
use Rattle.lw_server.specs.Server.{ServerContent}
use Rattle.lw_server.proofs.Turns.{writes_same}
use Rattle.lw_server.proofs.server.Server.observe_shown.Goals as goal

pub returns-in_err-leave-clause-own : goal.returns-in_err-leave-clause-own
returns-in_err-leave-clause-own g c = writes_same _ _ (ap (λ (server : ServerContent). server.replica) c.self.view_is)
