use Rattle.lw_redis_log.proofs.LoginLemmas.{no_login, none_of_both}
use Rattle.lw_redis_log.proofs.login.parts.Goals as goal

pub returns-in-Some-clause-none : goal.returns-in-Some-clause-none
returns-in-Some-clause-none c =
    none_of_both c.both.result c.args.bytes.now c.in-Some.line.now c.in-Some.behind.now c.in-Some.ensures.found c.both.ensures.none

pub returns-in-None-clause-none : goal.returns-in-None-clause-none
returns-in-None-clause-none c = no_login c.args.bytes.now c.in-None.ensures.none
