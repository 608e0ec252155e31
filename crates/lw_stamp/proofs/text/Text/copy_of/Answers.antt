use Rattle.std.proofs.Common.{rules}
use Rattle.lw_stamp.proofs.text.Text.copy_of.Goals as goal

pub returns : goal.returns
returns c = search rules
