use Rattle.std.proofs.Common.{arith}
use Rattle.lw_delta.proofs.Parts.{first_found, none_found}
use Rattle.lw_delta.proofs.numbers.byte.Goals as goal

pub returns-in_default-clause-fault : goal.returns-in_default-clause-fault
returns-in_default-clause-fault c = none_found c.args.bytes.now c.in_default.len_below

pub returns-clause-found : goal.returns-clause-found
returns-clause-found c = first_found c.args.bytes.now (λ i. omega (arith, c.type_inv.bytes i)) c.in-len1-up.len_at_least
