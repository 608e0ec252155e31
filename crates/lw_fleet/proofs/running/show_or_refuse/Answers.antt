use Rattle.std.proofs.Common.{rules}
use Rattle.lw_fleet.proofs.running.show_or_refuse.Goals as goal

pub returns-in-DisplayHelp-clause-shown : goal.returns-in-DisplayHelp-clause-shown
returns-in-DisplayHelp-clause-shown g c = search rules

pub returns-in_default-clause-refused : goal.returns-in_default-clause-refused
returns-in_default-clause-refused g c = search rules
