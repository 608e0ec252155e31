use Rattle.std.proofs.Common.{rules}
use Rattle.lw_delta.proofs.values.is_above.Goals as goal

pub returns-in-Some : goal.returns-in-Some
returns-in-Some c = search rules
