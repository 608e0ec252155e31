use Rattle.std.proofs.Common.{rules}
use Rattle.lw_join.proofs.pair.Tuple2Join.join_with.Goals as goal

pub returns-clause-ok : goal.returns-clause-ok
returns-clause-ok c = search rules
