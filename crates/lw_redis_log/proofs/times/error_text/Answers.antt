use Rattle.std.proofs.Common.{[]}
use Rattle.lw_resp.specs.Words.WordContent.{Error}
use Rattle.lw_redis_log.proofs.TimeLemmas.{error_begins, error_only, error_found, not_empty}
use Rattle.lw_redis_log.proofs.times.error_text.Goals as goal

pub returns-then-is_empty-clause-found : goal.returns-then-is_empty-clause-found
returns-then-is_empty-clause-found c =
    error_found c.args.bytes.now c.in-Some.word c.in-Some.behind.now c.is_empty.result c.is_empty.ensures c.if-is_empty.true c.in-Some.ensures.found c.error_of.result c.error_of.ensures.found

pub returns-then-is_empty-clause-only : goal.returns-then-is_empty-clause-only
returns-then-is_empty-clause-only c = λ text error.
    let same = c.in-Some.ensures.only (Error text) [] (error_begins c.args.bytes.now text error) in
    error_only c.in-Some.word text c.error_of.result c.error_of.ensures.found c.error_of.ensures.none same.0

pub returns-else-is_empty-clause-only : goal.returns-else-is_empty-clause-only
returns-else-is_empty-clause-only c = λ text error.
    let same = c.in-Some.ensures.only (Error text) [] (error_begins c.args.bytes.now text error) in
    not_empty c.is_empty.result c.in-Some.behind.now c.is_empty.ensures c.if-is_empty.false same.1

pub returns-in-None-clause-only : goal.returns-in-None-clause-only
returns-in-None-clause-only c = λ text error. c.in-None.ensures.only (Error text) [] (error_begins c.args.bytes.now text error)
