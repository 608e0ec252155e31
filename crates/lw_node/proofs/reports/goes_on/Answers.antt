use Rattle.std.proofs.Common.{rules}
use Rattle.lw_node.proofs.reports.goes_on.Goals as goal

pub returns-then-report-eq-SUCCESS : goal.returns-then-report-eq-SUCCESS
returns-then-report-eq-SUCCESS c = search rules
