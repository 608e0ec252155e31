use Rattle.std.proofs.Common.{arith, append_assoc}
use Rattle.lw_link.proofs.printing.put_escaped.Goals as goal

pub loop-c-preserved : goal.loop-c-preserved
loop-c-preserved c = grind (arith, append_assoc)
