use Rattle.std.proofs.Common.{length}
use Rattle.lw_coap.proofs.Walk.{IsWalked}
use Rattle.lw_coap.proofs.reading.read_body.Given as goal

abbrev pub invariant-loop-rest : goal.invariant-loop-rest
invariant-loop-rest l = IsWalked l.body l.options.items l.number l.rest

abbrev pub decreases-loop-rest : goal.decreases-loop-rest
decreases-loop-rest l = length l.rest
