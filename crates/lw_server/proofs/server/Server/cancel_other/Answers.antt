use Rattle.std.proofs.Common.{sym}
use Rattle.lw_table.proofs.KeyLemmas.{tokens_same}
use Rattle.lw_server.proofs.Turns.{writes_none}
use Rattle.lw_server.proofs.server.Server.cancel_other.Goals as goal

pub returns-then-eq-clause-ends : goal.returns-then-eq-clause-ends
returns-then-eq-clause-ends g c other =
    absurd (other (tokens_same c.args.there c.args.before (sym c.if-eq.ensures)))

pub returns-then-eq-clause-own : goal.returns-then-eq-clause-own
returns-then-eq-clause-own g c = writes_none _

pub returns-in-None-clause-own : goal.returns-in-None-clause-own
returns-in-None-clause-own g c = writes_none _
