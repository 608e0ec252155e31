use Rattle.std.proofs.Common.{take}
use Rattle.lw_redis_log.specs.Pages.{IsPage}
use Rattle.lw_redis_log.proofs.pages.page_of.Given as goal

abbrev pub invariant-loop-entry : goal.invariant-loop-entry
invariant-loop-entry l = IsPage (take l.entry-index l.entries) l.page.items
