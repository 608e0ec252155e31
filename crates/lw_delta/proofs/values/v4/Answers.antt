use Rattle.std.proofs.Common.{arith}
use Rattle.lw_delta.proofs.Parts.{both, first_fails, later_fails, given, bytes_cut, front_found, raised}
use Rattle.lw_delta.proofs.values.v4.Goals as goal

pub returns-in_default-clause-fault : goal.returns-in_default-clause-fault
returns-in_default-clause-fault c = first_fails _ (bytes_cut 4 c.args.bytes.now c.in_default.ensures.cases)

pub returns-in_err-port-clause-fault : goal.returns-in_err-port-clause-fault
returns-in_err-port-clause-fault c = raised _ c.from_residual.result c.from_residual.ensures.1 (later_fails _ (front_found 4 c.args.bytes.now c.in-Some.address.now c.in-Some.rest.now (λ i. omega (arith, c.type_inv.bytes i)) c.in-Some.ensures.cases.0 c.in-Some.ensures.cases.1 (omega (arith, c.in-Some.ensures.cases.2))) (first_fails _ c.in_err-port.ensures.fault))

pub returns-clause-found : goal.returns-clause-found
returns-clause-found c = both _ (front_found 4 c.args.bytes.now c.in-Some.address.now c.in-Some.rest.now (λ i. omega (arith, c.type_inv.bytes i)) c.in-Some.ensures.cases.0 c.in-Some.ensures.cases.1 (omega (arith, c.in-Some.ensures.cases.2))) (both _ c.in_ok-port.ensures.found given)
