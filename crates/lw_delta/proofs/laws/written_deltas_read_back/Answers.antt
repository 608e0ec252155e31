use Rattle.lw_delta.proofs.PrintsDelta.{delta_reads_back}
use Rattle.lw_delta.proofs.laws.written_deltas_read_back.Goals as goal

pub returns : goal.returns
returns c = delta_reads_back
