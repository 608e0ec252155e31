use Rattle.uses.proofs.Notices.{TakenSoFar}
use Rattle.uses.proofs.following.notices_of.Given as goal

abbrev pub invariant-loop-datagram : goal.invariant-loop-datagram
invariant-loop-datagram l = TakenSoFar l.token l.initial.node l.datagrams l.datagram-index l.notices.items l.node
