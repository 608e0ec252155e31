use Rattle.std.proofs.Common.{rules}
use Rattle.lw_held.proofs.entry.Entry.same.Goals as goal

pub returns-then-same : goal.returns-then-same
returns-then-same c = search rules
