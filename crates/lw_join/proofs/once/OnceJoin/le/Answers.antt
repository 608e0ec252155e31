use Rattle.std.proofs.Common.{rules}
use Rattle.lw_join.proofs.once.OnceJoin.le.Goals as goal

pub returns-in-Some-Some : goal.returns-in-Some-Some
returns-in-Some-Some c = search rules
