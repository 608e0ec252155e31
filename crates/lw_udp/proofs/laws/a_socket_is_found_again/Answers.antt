use Rattle.lw_udp.proofs.ScopeLemmas.{found_again}
use Rattle.lw_udp.proofs.laws.a_socket_is_found_again.Goals as goal

pub returns : goal.returns
returns c = found_again
