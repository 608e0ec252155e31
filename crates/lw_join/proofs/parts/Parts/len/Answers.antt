use Rattle.std.proofs.Common.{rules}
use Rattle.lw_join.proofs.parts.Parts.len.Goals as goal

pub returns : goal.returns
returns c = search rules
