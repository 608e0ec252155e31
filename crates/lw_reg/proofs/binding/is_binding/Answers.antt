use Rattle.std.proofs.Common.{rules}
use Rattle.lw_reg.proofs.binding.is_binding.Goals as goal

pub returns-then-text-le8 : goal.returns-then-text-le8
returns-then-text-le8 c = search rules
