use Rattle.std.proofs.Common.{rules}
use Rattle.lw_fleet.proofs.command.number.Goals as goal

pub returns-then-starts_with : goal.returns-then-starts_with
returns-then-starts_with c = search rules
