use Rattle.std.proofs.Common.{rules}
use Rattle.lw_server.proofs.receiving.receive.Goals as goal

pub loop-taken-init : goal.loop-taken-init
loop-taken-init c = search rules

pub returns : goal.returns
returns c = search rules
