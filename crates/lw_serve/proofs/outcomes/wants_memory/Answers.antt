use Rattle.std.proofs.Common.{rules}
use Rattle.lw_serve.proofs.outcomes.wants_memory.Goals as goal

pub returns-in-NoMemory : goal.returns-in-NoMemory
returns-in-NoMemory c = search rules
