use Rattle.std.proofs.Common.{arith}
use Rattle.lw_reg.proofs.Addresses.{v4_printed}
use Rattle.lw_reg.proofs.addr.printing.v4.Goals as goal

pub returns : goal.returns
returns c = v4_printed c.args.address c.args.port (omega arith) c.format.result c.format.ensures.ok
