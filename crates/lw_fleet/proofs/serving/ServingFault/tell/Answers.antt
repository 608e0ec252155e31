use Rattle.std.proofs.Common.{rules}
use Rattle.lw_fleet.proofs.serving.ServingFault.tell.Goals as goal

pub returns : goal.returns
returns g c = search rules
