use Rattle.lw_server.proofs.Reached.{told_where_ok}
use Rattle.lw_server.proofs.api.ServerApi.carry_out.Goals as goal

pub returns : goal.returns
returns g c = record {
  outcome = c.execute-outcome.result;
  executed = c.execute-outcome.new.self;
  executes = c.execute-outcome.ensures;
  noted = c.note_fault.ensures;
  told = told_where_ok _ _ _ c.ok.ensures.value c.tell_outcome.ensures;
}
