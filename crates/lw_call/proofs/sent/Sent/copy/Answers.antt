use Rattle.std.proofs.Common.{rules}
use Rattle.lw_call.proofs.sent.Sent.copy.Goals as goal

pub returns : goal.returns
returns c = search rules
