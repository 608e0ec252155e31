use Rattle.lw_delta.proofs.Answering.{read_found, only_delta, read_fault, fault_read, want_read}
use Rattle.lw_delta.proofs.reading.read.Goals as goal

pub returns-clause-found : goal.returns-clause-found
returns-clause-found c = read_found c.args.bytes.now c.read_walked.result c.read_walked.ensures.read

pub returns-clause-only : goal.returns-clause-only
returns-clause-only c = only_delta c.args.bytes.now c.read_walked.result c.read_walked.ensures.read

pub returns-clause-faults : goal.returns-clause-faults
returns-clause-faults c = λ fault other. (read_fault c.args.bytes.now c.read_walked.result c.read_walked.ensures.read fault other, fault_read c.args.bytes.now c.read_walked.result c.read_walked.ensures.read fault)

pub returns-clause-memory : goal.returns-clause-memory
returns-clause-memory c = want_read c.args.bytes.now c.read_walked.result c.read_walked.ensures.read
