use Rattle.std.proofs.Common.{rules}
use Rattle.lw_call.proofs.comparing.same_sent.Goals as goal

pub returns-then-same_bytes : goal.returns-then-same_bytes
returns-then-same_bytes c = search rules
