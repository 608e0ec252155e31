use Rattle.std.proofs.Common.{◌≡◌, length}
use Rattle.lw_stamp.specs.Moment.{ms_of}
use Rattle.lw_api.specs.Answers.{AreWatchesAfter}
use Rattle.lw_api.specs.Known.{OfKnown}
use Rattle.lw_api.proofs.observing.page_of.Given as goal

abbrev pub invariant-loop-watch : goal.invariant-loop-watch
invariant-loop-watch l = (length l.page.items ≡ l._watch)
    × OfKnown l.node.table.state (λ M. AreWatchesAfter M (ms_of l.now) l.id l.after l.page.items)
