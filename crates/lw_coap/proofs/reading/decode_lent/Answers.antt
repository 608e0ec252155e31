use Rattle.lw_coap.proofs.Messages.{only, faults_only, faults_all}
use Rattle.lw_coap.proofs.reading.decode_lent.Goals as goal

pub returns-clause-only : goal.returns-clause-only
returns-clause-only c = only c.args.bytes.now c.read_lent.result c.read_lent.ensures

pub returns-clause-faults : goal.returns-clause-faults
returns-clause-faults c = λ fault other. (faults_only c.args.bytes.now c.read_lent.result c.read_lent.ensures fault other, faults_all c.args.bytes.now c.read_lent.result c.read_lent.ensures fault)
