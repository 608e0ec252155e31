use Rattle.std.proofs.Common.{inr, arith}
use Rattle.lw_log.specs.EntryFaults.{IsBodyFault}
use Rattle.lw_log.proofs.Bodies.{fault_in_delta, snapshot_body}
use Rattle.lw_log.proofs.Entries.{raised}
use Rattle.lw_log.proofs.reading.read_body.Goals as goal

pub returns-in_err-check_delta-in-2-clause-fault : goal.returns-in_err-check_delta-in-2-clause-fault
returns-in_err-check_delta-in-2-clause-fault c =
    let cut = c.in-Some.ensures.cases in
    raised (IsBodyFault c.args.kind c.args.body.now) c.from_residual-in_err-check_delta-in-2.result c.from_residual-in_err-check_delta-in-2.ensures.1
    (fault_in_delta c.args.kind c.args.body.now c.in-Some.delta.now _ (inr (c.in-2.is, omega (arith, cut.2), cut.1)) c.in_err-check_delta-in-2.ensures.fault)

pub returns-in_ok-check_delta-in-2-clause-found : goal.returns-in_ok-check_delta-in-2-clause-found
returns-in_ok-check_delta-in-2-clause-found c =
    let cut = c.in-Some.ensures.cases in
    snapshot_body c.args.kind c.args.body.now c.in-Some.used_numbers.now c.in-Some.delta.now c.in-2.is cut.0 cut.1 (omega (arith, cut.2)) c.in_ok-check_delta-in-2.ensures.found
