use Rattle.std.proofs.Common.{rules}
use Rattle.lw_reg.proofs.slot.Slot.seen.Goals as goal

pub returns : goal.returns
returns c = search rules
