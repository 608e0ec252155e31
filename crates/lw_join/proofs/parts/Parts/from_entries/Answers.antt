use Rattle.std.proofs.Common.{rules}
use Rattle.lw_join.proofs.parts.Parts.from_entries.Goals as goal

pub invariant_of-result : goal.invariant_of-result
invariant_of-result c = search rules
