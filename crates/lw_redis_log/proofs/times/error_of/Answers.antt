use Rattle.lw_redis_log.proofs.TimeLemmas.{no_error}
use Rattle.lw_redis_log.proofs.times.error_of.Goals as goal

pub returns-in_default-clause-none : goal.returns-in_default-clause-none
returns-in_default-clause-none c = no_error c.args.word c.in_default.not-Error
