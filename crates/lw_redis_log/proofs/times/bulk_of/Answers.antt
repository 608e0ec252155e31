use Rattle.lw_redis_log.proofs.TimeLemmas.{no_bulk}
use Rattle.lw_redis_log.proofs.times.bulk_of.Goals as goal

pub returns-in_default-clause-none : goal.returns-in_default-clause-none
returns-in_default-clause-none c = no_bulk c.args.word c.in_default.not-Bulk
