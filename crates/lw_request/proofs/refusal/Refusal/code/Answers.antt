use Rattle.std.proofs.Common.{rules}
use Rattle.lw_request.proofs.refusal.Refusal.code.Goals as goal

pub returns-in-BadOption : goal.returns-in-BadOption
returns-in-BadOption c = search rules
