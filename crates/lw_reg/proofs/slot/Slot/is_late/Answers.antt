use Rattle.std.proofs.Common.{rules}
use Rattle.lw_reg.proofs.slot.Slot.is_late.Goals as goal

pub returns-in-Some : goal.returns-in-Some
returns-in-Some c = search rules
