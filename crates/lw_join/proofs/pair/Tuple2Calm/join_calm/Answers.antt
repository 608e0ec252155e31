use Rattle.std.proofs.Common.{rules}
use Rattle.lw_join.proofs.pair.Tuple2Calm.join_calm.Goals as goal

pub returns : goal.returns
returns c = search rules
