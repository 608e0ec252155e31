use Rattle.std.proofs.Common.{rules}
use Rattle.lw_stamp.proofs.stamp.Stamp.id_text.Goals as goal

pub returns : goal.returns
returns c = search rules
