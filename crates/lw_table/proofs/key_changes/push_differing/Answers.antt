use Rattle.std.proofs.Common.{arith}
use Rattle.std.proofs.lemmas.Grind.{common_steps}
use Rattle.lw_table.proofs.key_changes.push_differing.Goals as goal

pub returns : goal.returns
returns c = grind (arith, common_steps)
