use Rattle.lw_world.proofs.Leading.{clocks_lead, stamps_differ, known_was_issued}
use Rattle.lw_world.proofs.laws.clocks_lead.Goals as goal

pub returns-clause-clocks : goal.returns-clause-clocks
returns-clause-clocks c = clocks_lead

pub returns-clause-stamps : goal.returns-clause-stamps
returns-clause-stamps c = stamps_differ

pub returns-clause-issued : goal.returns-clause-issued
returns-clause-issued c = known_was_issued
