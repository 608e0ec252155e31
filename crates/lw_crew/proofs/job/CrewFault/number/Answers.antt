use Rattle.std.proofs.Common.{rules}
use Rattle.lw_crew.proofs.job.CrewFault.number.Goals as goal

pub returns-in-Missing : goal.returns-in-Missing
returns-in-Missing c = search rules
