use Rattle.std.proofs.Common.{sym}
use Rattle.lw_call.proofs.call.Call.copy.Goals as goal

pub returns-in-Send-clause-value : goal.returns-in-Send-clause-value
returns-in-Send-clause-value c = sym c.in-Send.is
