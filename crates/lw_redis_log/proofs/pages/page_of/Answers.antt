use Rattle.std.proofs.lemmas.Option.{slice_get-get_or}
use Rattle.lw_redis_log.proofs.PageLemmas.{one_more}
use Rattle.lw_redis_log.proofs.pages.page_of.Goals as goal

pub loop-entry-preserved : goal.loop-entry-preserved
loop-entry-preserved c =
    one_more c.args.entries.now c.loop-entry.page.items c.push.new.self.items c.loop-entry.entry-index _ c.in_ok-placed.field-0
    (slice_get-get_or c.args.entries.now c.loop-entry.entry-index _ c.loop-entry-test.true) c.loop-entry.invariant
    c.in_ok-placed.ensures.placed c.in_ok-push.ensures.items
