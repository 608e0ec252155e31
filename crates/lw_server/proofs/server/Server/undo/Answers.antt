use Rattle.lw_server.proofs.Turns.{writes_none}
use Rattle.lw_server.proofs.server.Server.undo.Goals as goal

pub returns-clause-done : goal.returns-clause-done
returns-clause-done g c = (
  c.cancel_other.new.self,
  record {
    there = c.in_ok-there.there;
    is = c.in_ok-there.ensures;
    stays = λ same. c.in_ok-cancel_other.ensures.stays same;
    ends = λ other. c.in_ok-cancel_other.ensures.ends other;
  },
  c.drop_first.ensures,
)

pub returns-in_err-there-clause-own : goal.returns-in_err-there-clause-own
returns-in_err-there-clause-own g c = writes_none _
