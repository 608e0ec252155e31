use Rattle.std.proofs.Common.{rules}
use Rattle.lw_stamp.proofs.text.Text.into_string.Goals as goal

pub returns : goal.returns
returns c = search rules
