use Rattle.std.proofs.Common.{rules}
use Rattle.lw_serve.proofs.udp.UdpWire.new.Goals as goal

pub returns : goal.returns
returns c = search rules
