use Rattle.lw_delta.proofs.Fitting.{spelled_fits}
use Rattle.lw_delta.proofs.laws.deltas_can_be_written.Goals as goal

pub returns : goal.returns
returns c = spelled_fits
