use Rattle.std.proofs.Common.{◌∙◌, sym}
use Rattle.lw_resp.specs.Words.WordContent.{Bulk}
use Rattle.lw_redis_log.proofs.TimeLemmas.{bulk_begins, bulk_same}
use Rattle.lw_redis_log.proofs.times.first_bulk.Goals as goal

pub returns-in-Some-bulk_of-clause-only : goal.returns-in-Some-bulk_of-clause-only
returns-in-Some-bulk_of-clause-only c = λ content rest begins.
    let same = c.in-Some.ensures.only (Bulk content) rest (bulk_begins c.args.bytes.now content rest begins) in
    (bulk_same _ content (sym c.in-Some-bulk_of.ensures.found ∙ same.0), same.1)

pub returns-in-None-bulk_of-clause-only : goal.returns-in-None-bulk_of-clause-only
returns-in-None-bulk_of-clause-only c = λ content rest begins.
    let same = c.in-Some.ensures.only (Bulk content) rest (bulk_begins c.args.bytes.now content rest begins) in
    c.in-None-bulk_of.ensures.none content same.0

pub returns-in-None-clause-only : goal.returns-in-None-clause-only
returns-in-None-clause-only c = λ content rest begins.
    c.in-None.ensures.only (Bulk content) rest (bulk_begins c.args.bytes.now content rest begins)
