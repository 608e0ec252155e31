use Rattle.std.proofs.Common.{arith}
use Rattle.lw_delta.proofs.Parts.{bytes_cut, front_found}
use Rattle.lw_delta.proofs.numbers.front.Goals as goal

pub returns-then-bytes-count-clause-fault : goal.returns-then-bytes-count-clause-fault
returns-then-bytes-count-clause-fault c = bytes_cut c.args.count c.args.bytes.now c.if-bytes-count.true

pub returns-clause-found : goal.returns-clause-found
returns-clause-found c = front_found c.args.count c.args.bytes.now c.split_at.result.0.now c.split_at.result.1.now (λ i. omega (arith, c.type_inv.bytes i)) c.split_at.ensures.front c.split_at.ensures.back c.if-bytes-count.false
