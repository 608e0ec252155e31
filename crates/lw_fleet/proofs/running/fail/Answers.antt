use Rattle.std.proofs.Common.{rules}
use Rattle.lw_fleet.proofs.running.fail.Goals as goal

pub returns-clause-told : goal.returns-clause-told
returns-clause-told g c = search rules
