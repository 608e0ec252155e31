use Rattle.std.proofs.Common.{rules}
use Rattle.lw_join.proofs.once.OnceCalm.join_calm.Goals as goal

pub returns-then-not-le : goal.returns-then-not-le
returns-then-not-le g c = search rules

pub returns-else-not-le : goal.returns-else-not-le
returns-else-not-le g c = search rules
