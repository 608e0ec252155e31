use Rattle.std.proofs.Common.{rules}
use Rattle.lw_join.proofs.lex.LexCalm.join_calm.Goals as goal

pub returns-in-Less : goal.returns-in-Less
returns-in-Less c = search rules
