use Rattle.std.proofs.Common.{refl}
use Rattle.lw_resp.proofs.LineLemmas.{line_without_end}
use Rattle.lw_resp.proofs.lines.first_line.Goals as goal

pub returns-in-None : goal.returns-in-None
returns-in-None c = (line_without_end c.args.bytes.now c.in-None.ensures, refl)
