use Rattle.std.proofs.Common.{List, None}
use Rattle.lw_log.specs.Calls.{LogCall, Calls, place_of}
use Rattle.lw_replica.specs.Reading.{entries_in}
use Rattle.lw_replica.specs.inner.Looking.{HasSeen}
use Rattle.lw_replica.specs.inner.Taking.{ArePages}
use Rattle.lw_replica.proofs.looking.look.Given as goal

abbrev pub invariant-loop-page : goal.invariant-loop-page
invariant-loop-page g l = (pages : List LogCall) × Calls (g.G.DeltaLog.calls l.initial.log) (g.G.DeltaLog.calls l.log) pages × ArePages None pages (place_of l.after) × HasSeen (entries_in pages) l.found
