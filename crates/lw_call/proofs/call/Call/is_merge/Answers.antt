use Rattle.std.proofs.Common.{rules}
use Rattle.lw_call.proofs.call.Call.is_merge.Goals as goal

pub returns-in-Merge : goal.returns-in-Merge
returns-in-Merge c = search rules
