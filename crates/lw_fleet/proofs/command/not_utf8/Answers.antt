use Rattle.std.proofs.Common.{rules}
use Rattle.lw_fleet.proofs.command.not_utf8.Goals as goal

pub returns : goal.returns
returns c = search rules
