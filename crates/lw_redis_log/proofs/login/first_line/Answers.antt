use Rattle.std.proofs.Common.{sym}
use Rattle.lw_redis_log.proofs.LoginLemmas.{no_feed_no_line}
use Rattle.lw_redis_log.proofs.login.first_line.Goals as goal

pub returns-in-None-clause-none : goal.returns-in-None-clause-none
returns-in-None-clause-none c = no_feed_no_line c.args.bytes.now (sym c.in-None.ensures)
