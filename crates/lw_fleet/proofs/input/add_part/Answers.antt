use Rattle.std.proofs.Common.{rules}
use Rattle.lw_fleet.proofs.input.add_part.Goals as goal

pub returns-clause-fits : goal.returns-clause-fits
returns-clause-fits c = search rules
