use Rattle.std.proofs.Common.{arith}
use Rattle.lw_delta.proofs.Parts.{both, first_fails, meant, bytes_cut, front_found}
use Rattle.lw_delta.proofs.numbers.number32.Goals as goal

pub returns-in_default-clause-fault : goal.returns-in_default-clause-fault
returns-in_default-clause-fault c = first_fails _ (bytes_cut 4 c.args.bytes.now c.in_default.ensures.cases)

pub returns-clause-found : goal.returns-clause-found
returns-clause-found c =
    let cut = c.in-Some.ensures.cases in
    both _ (front_found 4 c.args.bytes.now c.in-Some.block.now c.in-Some.rest.now (λ i. omega (arith, c.type_inv.bytes i)) cut.0 cut.1 (omega (arith, cut.2))) (meant _ c.from_be_bytes.ensures)
