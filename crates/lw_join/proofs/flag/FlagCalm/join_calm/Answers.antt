use Rattle.std.proofs.Common.{rules}
use Rattle.lw_join.proofs.flag.FlagCalm.join_calm.Goals as goal

pub returns : goal.returns
returns c = search rules
