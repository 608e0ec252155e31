use Rattle.lw_delta.proofs.Answering.{one_delta, apart, one_fault}
use Rattle.lw_delta.proofs.laws.bytes_are_a_delta_or_a_fault.Goals as goal

pub returns-clause-delta : goal.returns-clause-delta
returns-clause-delta c = one_delta

pub returns-clause-apart : goal.returns-clause-apart
returns-clause-apart c = apart

pub returns-clause-fault : goal.returns-clause-fault
returns-clause-fault c = one_fault
