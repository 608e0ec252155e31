use Rattle.std.proofs.Common.{rules}
use Rattle.lw_held.proofs.held.Held.new.Goals as goal

pub returns : goal.returns
returns c = search rules
