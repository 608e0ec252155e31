use Rattle.std.proofs.Common.{rules}
use Rattle.lw_reg.proofs.slot.Slot.from_parts.Goals as goal

pub returns-clause-slot : goal.returns-clause-slot
returns-clause-slot c = search rules
