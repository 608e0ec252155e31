use Rattle.std.proofs.Common.{rules}
use Rattle.lw_request.proofs.options.is_recognised.Goals as goal

pub returns-in_default : goal.returns-in_default
returns-in_default c = search rules
