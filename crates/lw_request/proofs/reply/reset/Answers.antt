use Rattle.std.proofs.Common.{rules}
use Rattle.lw_request.proofs.reply.reset.Goals as goal

pub returns : goal.returns
returns c = search rules
