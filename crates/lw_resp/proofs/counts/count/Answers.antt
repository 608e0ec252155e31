use Rattle.std.proofs.Common.{arith}
use Rattle.lw_resp.specs.Bytes.{count_line}
use Rattle.lw_resp.specs.inner.Parts.{IsAtMost}
use Rattle.lw_resp.proofs.Composed.{none_come}
use Rattle.lw_resp.proofs.counts.count.Goals as goal

pub returns-in-None : goal.returns-in-None
returns-in-None c = none_come (IsAtMost c.args.most) (count_line c.args.kind) c.args.bytes.now 0 (omega arith) (omega arith) c.in-None.ensures.cases
