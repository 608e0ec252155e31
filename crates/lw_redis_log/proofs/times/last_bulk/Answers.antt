use Rattle.std.proofs.Common.{[]}
use Rattle.lw_redis_log.proofs.TimeLemmas.{last_begins, not_empty}
use Rattle.lw_redis_log.proofs.times.last_bulk.Goals as goal

pub returns-else-is_empty-clause-only : goal.returns-else-is_empty-clause-only
returns-else-is_empty-clause-only c = λ content last.
    let same = c.in-Some.ensures.only content [] (last_begins c.args.bytes.now content last) in
    not_empty c.is_empty.result c.in-Some.behind.now c.is_empty.ensures c.if-is_empty.false same.1

pub returns-in-None-clause-only : goal.returns-in-None-clause-only
returns-in-None-clause-only c = λ content last. c.in-None.ensures.only content [] (last_begins c.args.bytes.now content last)
