use Rattle.std.proofs.Common.{rules}
use Rattle.lw_join.proofs.flag.FlagJoin.join_with.Goals as goal

pub returns-clause-ok : goal.returns-clause-ok
returns-clause-ok c = search rules
