-- Those before the place have their message IDs, and the rest is as it was.
use Rattle.lw_server.proofs.Numbers.{IsNumbering}
use Rattle.lw_server.proofs.numbering.number_each.Given as goal

abbrev pub invariant-loop-datagram : goal.invariant-loop-datagram
invariant-loop-datagram l = IsNumbering l.now l.initial.ids l.initial.handled l.datagram-index l.handled l.ids
