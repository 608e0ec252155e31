use Rattle.std.proofs.Common.{arith}
use Rattle.lw_redis_log.proofs.TimeLemmas.{moment_none}
use Rattle.lw_redis_log.proofs.times.moment_of.Goals as goal

pub returns-in-Some-number-clause-none : goal.returns-in-Some-number-clause-none
returns-in-Some-number-clause-none c =
    moment_none c.args.seconds.now c.args.microseconds.now c.in-Some.whole c.in-Some-number.part c.milliseconds.result (omega arith) (omega arith)
    c.in-Some.ensures.found c.in-Some-number.ensures.found c.milliseconds.ensures.none
