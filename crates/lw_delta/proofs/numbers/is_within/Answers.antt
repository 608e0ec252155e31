use Rattle.std.proofs.Common.{rules}
use Rattle.lw_delta.proofs.numbers.is_within.Goals as goal

pub returns-then-count-ge1 : goal.returns-then-count-ge1
returns-then-count-ge1 c = search rules
