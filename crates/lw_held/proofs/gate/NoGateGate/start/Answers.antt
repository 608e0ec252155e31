use Rattle.std.proofs.Common.{rules}
use Rattle.lw_held.proofs.gate.NoGateGate.start.Goals as goal

pub returns : goal.returns
returns c = search rules
