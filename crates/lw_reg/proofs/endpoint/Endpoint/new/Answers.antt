use Rattle.std.proofs.Common.{rules}
use Rattle.lw_reg.proofs.endpoint.Endpoint.new.Goals as goal

pub returns-then-length-eq0-clause-accepted : goal.returns-then-length-eq0-clause-accepted
returns-then-length-eq0-clause-accepted c = search rules
