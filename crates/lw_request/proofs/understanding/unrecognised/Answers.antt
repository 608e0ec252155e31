use Rattle.std.proofs.Common.{rules}
use Rattle.lw_request.proofs.understanding.unrecognised.Goals as goal

pub returns-in-Non : goal.returns-in-Non
returns-in-Non c = search rules
