use Rattle.std.proofs.Common.{rules}
use Rattle.lw_reg.proofs.laws.limits.bounds_are_numbers.Goals as goal

pub returns-clause-path_length : goal.returns-clause-path_length
returns-clause-path_length c = search rules
