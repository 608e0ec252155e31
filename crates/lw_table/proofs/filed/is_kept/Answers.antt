use Rattle.std.proofs.Common.{rules}
use Rattle.lw_table.proofs.filed.is_kept.Goals as goal

pub returns-in-Some : goal.returns-in-Some
returns-in-Some c = search rules
