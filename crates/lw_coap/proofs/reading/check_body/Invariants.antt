use Rattle.std.proofs.Common.{◌≡◌, ◌+◌, ◌≤◌, List, length}
use Rattle.lw_coap.specs.Message.{OptionContent}
use Rattle.lw_coap.proofs.Walk.{IsWalked}
use Rattle.lw_coap.proofs.reading.check_body.Given as goal

abbrev pub invariant-loop-rest : goal.invariant-loop-rest
invariant-loop-rest l = (options : List OptionContent) × IsWalked l.body options l.number l.rest × (length options ≡ l.count) × (l.count + length l.rest ≤ length l.body)

abbrev pub decreases-loop-rest : goal.decreases-loop-rest
decreases-loop-rest l = length l.rest
