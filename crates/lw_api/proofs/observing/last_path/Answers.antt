use Rattle.std.proofs.Common.{sym}
use Rattle.lw_api.proofs.WatchLemmas.{last_at}
use Rattle.lw_api.proofs.observing.last_path.Goals as goal

pub returns-in-Some : goal.returns-in-Some
returns-in-Some c = last_at c.args.after c.args.page.now c.in-Some.watch.now (sym c.in-Some.ensures.value)
