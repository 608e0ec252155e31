use Rattle.std.proofs.Common.{rules}
use Rattle.lw_join.proofs.parts.Parts.into_entries.Goals as goal

pub returns-clause-entries : goal.returns-clause-entries
returns-clause-entries c = search rules

pub returns-clause-rise : goal.returns-clause-rise
returns-clause-rise c = search rules
