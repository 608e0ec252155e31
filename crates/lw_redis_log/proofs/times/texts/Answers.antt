use Rattle.std.proofs.Common.{◌++◌}
use Rattle.std.proofs.lemmas.Bool.{iff_false}
use Rattle.lw_resp.specs.Bytes.{bulk_bytes}
use Rattle.lw_resp.specs.Words.WordContent.{Array}
use Rattle.lw_redis_log.proofs.TimeLemmas.{pair_begins, pair_behind}
use Rattle.lw_redis_log.proofs.times.texts.Goals as goal

pub returns-then-is_pair-clause-only : goal.returns-then-is_pair-clause-only
returns-then-is_pair-clause-only c = λ first last are.
    let same = c.in-Some.ensures.only (Array 2) (bulk_bytes first ++ bulk_bytes last) (pair_begins c.args.bytes.now first last are) in
    c.pair.ensures.only first last (pair_behind c.in-Some.behind.now first last c.args.bytes.now are same.1)

pub returns-else-is_pair-clause-only : goal.returns-else-is_pair-clause-only
returns-else-is_pair-clause-only c = λ first last are.
    let same = c.in-Some.ensures.only (Array 2) (bulk_bytes first ++ bulk_bytes last) (pair_begins c.args.bytes.now first last are) in
    iff_false c.is_pair.ensures c.if-is_pair.false same.0

pub returns-in-None-clause-only : goal.returns-in-None-clause-only
returns-in-None-clause-only c = λ first last are.
    c.in-None.ensures.only (Array 2) (bulk_bytes first ++ bulk_bytes last) (pair_begins c.args.bytes.now first last are)
