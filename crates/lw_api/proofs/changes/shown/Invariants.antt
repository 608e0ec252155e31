use Rattle.std.proofs.Common.{map, take}
use Rattle.lw_stamp.specs.Moment.{ms_of}
use Rattle.lw_json.specs.Changes.{change_of}
use Rattle.lw_api.specs.inner.Changes.{moved_of, AreShown}
use Rattle.lw_api.proofs.changes.shown.Given as goal

abbrev pub invariant-loop-change : goal.invariant-loop-change
invariant-loop-change l =
    AreShown l.fn.node (ms_of l.fn.now) (map moved_of (take l.change-index l.moved)) (map change_of l.changes.items)
