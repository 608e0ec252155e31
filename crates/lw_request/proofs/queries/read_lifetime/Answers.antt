use Rattle.std.proofs.Common.{rules}
use Rattle.lw_request.proofs.queries.read_lifetime.Goals as goal

pub read_decimal-requires : goal.read_decimal-requires
read_decimal-requires c = search rules

pub returns-clause-some : goal.returns-clause-some
returns-clause-some c = search rules
