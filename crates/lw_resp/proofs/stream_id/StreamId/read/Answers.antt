use Rattle.lw_resp.proofs.StreamIdLemmas.{no_dash}
use Rattle.lw_resp.proofs.stream_id.StreamId.read.Goals as goal

pub returns-in-None-clause-none : goal.returns-in-None-clause-none
returns-in-None-clause-none c = no_dash c.args.text.now c.in-None.ensures
