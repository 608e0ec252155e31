use Rattle.lw_delta.proofs.Answering.{only_clock, checked_fault, fault_checked, no_want, match_ok}
use Rattle.lw_delta.proofs.checking.check.Goals as goal

pub returns-clause-found : goal.returns-clause-found
returns-clause-found c = match_ok c.args.bytes.now c.walked_clock.result c.walked_clock.ensures

pub returns-clause-only : goal.returns-clause-only
returns-clause-only c = only_clock c.args.bytes.now c.walked_clock.result c.walked_clock.ensures

pub returns-clause-faults : goal.returns-clause-faults
returns-clause-faults c = λ fault. (checked_fault c.args.bytes.now c.walked_clock.result c.walked_clock.ensures fault, fault_checked c.args.bytes.now c.walked_clock.result c.walked_clock.ensures fault)

pub returns-clause-memory : goal.returns-clause-memory
returns-clause-memory c = no_want c.args.bytes.now
