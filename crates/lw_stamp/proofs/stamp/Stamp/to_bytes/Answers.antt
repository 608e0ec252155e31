use Rattle.std.proofs.Common.{rules}
use Rattle.lw_stamp.proofs.stamp.Stamp.to_bytes.Goals as goal

pub returns : goal.returns
returns c = search rules
