use Rattle.std.proofs.Common.{ap, option_copied}
use Rattle.lw_request.proofs.QueryLemmas.{other_version}
use Rattle.lw_request.proofs.register.version_in.Goals as goal

pub returns-in-Some-clause-none : goal.returns-in-Some-clause-none
returns-in-Some-clause-none c = other_version c.read.result (option_copied c.args.given) c.in-Some.text.now (ap option_copied c.in-Some.is) c.read.ensures
