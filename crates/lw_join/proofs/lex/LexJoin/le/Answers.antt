use Rattle.std.proofs.Common.{rules}
use Rattle.lw_join.proofs.lex.LexJoin.le.Goals as goal

pub returns-in-Less : goal.returns-in-Less
returns-in-Less c = search rules
