use Rattle.std.proofs.Common.{refl, arith}
use Rattle.lw_delta.proofs.Parts.{first_fails, bytes_cut, front_found}
use Rattle.lw_delta.proofs.Stamps.{stamp_found, stamp_zero, stamp_above}
use Rattle.lw_delta.proofs.numbers.stamp.Goals as goal

pub returns-in_default-clause-fault : goal.returns-in_default-clause-fault
returns-in_default-clause-fault c = first_fails _ (bytes_cut 8 c.args.bytes.now c.in_default.ensures.cases)

pub returns-in_default-from_bytes-clause-fault : goal.returns-in_default-from_bytes-clause-fault
returns-in_default-from_bytes-clause-fault c =
    let cut = c.in-Some.ensures.cases in
    stamp_zero c.args.clock c.args.bytes.now c.in-Some.block.now c.in-Some.rest.now
    (front_found 8 c.args.bytes.now c.in-Some.block.now c.in-Some.rest.now (λ i. omega (arith, c.type_inv.bytes i)) cut.0 cut.1 (omega (arith, cut.2))) (c.in_default-from_bytes.ensures.none.0 refl)

pub returns-then-stamp-clock-clause-fault : goal.returns-then-stamp-clock-clause-fault
returns-then-stamp-clock-clause-fault c =
    let cut = c.in-Some.ensures.cases in
    stamp_above c.args.clock c.args.bytes.now c.in-Some.block.now c.in-Some.rest.now c.in-Some-from_bytes.stamp
    (front_found 8 c.args.bytes.now c.in-Some.block.now c.in-Some.rest.now (λ i. omega (arith, c.type_inv.bytes i)) cut.0 cut.1 (omega (arith, cut.2))) ((c.from_bytes.ensures.some c.in-Some-from_bytes.stamp).0 c.in-Some-from_bytes.is) c.if-stamp-clock.true

pub returns-clause-found : goal.returns-clause-found
returns-clause-found c =
    let cut = c.in-Some.ensures.cases in
    stamp_found c.args.clock c.args.bytes.now c.in-Some.block.now c.in-Some.rest.now c.in-Some-from_bytes.stamp
    (front_found 8 c.args.bytes.now c.in-Some.block.now c.in-Some.rest.now (λ i. omega (arith, c.type_inv.bytes i)) cut.0 cut.1 (omega (arith, cut.2))) ((c.from_bytes.ensures.some c.in-Some-from_bytes.stamp).0 c.in-Some-from_bytes.is) c.if-stamp-clock.false
