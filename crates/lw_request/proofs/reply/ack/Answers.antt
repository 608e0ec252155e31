use Rattle.std.proofs.Common.{rules}
use Rattle.lw_request.proofs.reply.ack.Goals as goal

pub returns : goal.returns
returns c = search rules
