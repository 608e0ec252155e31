use Rattle.std.proofs.Common.{ap, option_copied}
use Rattle.lw_request.proofs.queries.lifetime_in.Goals as goal

pub returns-in-None-clause-err : goal.returns-in-None-clause-err
returns-in-None-clause-err c = (c.in-Some.text.now, ap option_copied c.in-Some.is, λ h. c.in-None.ensures.none h.0 h.1)
