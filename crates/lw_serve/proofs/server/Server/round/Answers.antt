use Rattle.std.proofs.Common.{rules}
use Rattle.lw_serve.proofs.server.Server.round.Goals as goal

pub returns-clause-round : goal.returns-clause-round
returns-clause-round c = search rules
