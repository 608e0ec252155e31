use Rattle.std.proofs.Common.{rules}
use Rattle.lw_crew.proofs.checking.is_told.Goals as goal

pub returns-else-found-clause-told : goal.returns-else-found-clause-told
returns-else-found-clause-told c = search rules
