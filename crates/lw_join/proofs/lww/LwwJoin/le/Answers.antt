use Rattle.std.proofs.Common.{rules}
use Rattle.lw_join.proofs.lww.LwwJoin.le.Goals as goal

pub returns-in-Some-Some : goal.returns-in-Some-Some
returns-in-Some-Some c = search rules
