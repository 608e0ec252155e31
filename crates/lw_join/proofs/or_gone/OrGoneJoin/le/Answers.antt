use Rattle.std.proofs.Common.{rules}
use Rattle.lw_join.proofs.or_gone.OrGoneJoin.le.Goals as goal

pub returns-in-Gone-Here : goal.returns-in-Gone-Here
returns-in-Gone-Here c = search rules
