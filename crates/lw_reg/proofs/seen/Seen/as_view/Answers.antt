use Rattle.std.proofs.Common.{rules}
use Rattle.lw_reg.proofs.seen.Seen.as_view.Goals as goal

pub returns : goal.returns
returns c = search rules
