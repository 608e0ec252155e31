use Rattle.std.proofs.Common.{rules}
use Rattle.lw_script.proofs.line.read_line.Goals as goal

pub returns-in-None : goal.returns-in-None
returns-in-None c = search rules
