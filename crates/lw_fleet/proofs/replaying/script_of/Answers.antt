use Rattle.std.proofs.Common.{rules}
use Rattle.lw_fleet.proofs.replaying.script_of.Goals as goal

pub returns-in-Err-Refused-clause-refused : goal.returns-in-Err-Refused-clause-refused
returns-in-Err-Refused-clause-refused c = search rules
