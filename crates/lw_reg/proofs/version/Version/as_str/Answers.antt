use Rattle.std.proofs.Common.{rules}
use Rattle.lw_reg.proofs.version.Version.as_str.Goals as goal

pub returns-in-V11 : goal.returns-in-V11
returns-in-V11 c = search rules
