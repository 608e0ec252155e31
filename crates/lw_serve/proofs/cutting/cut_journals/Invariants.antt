use Rattle.std.proofs.Common.{◌≡◌, length}
use Rattle.lw_serve.specs.inner.Volumes.{AreOfNodes}
use Rattle.lw_serve.proofs.cutting.cut_journals.Given as goal

-- each shelf has its mark still, and each volume that is kept is of one of the nodes
abbrev pub invariant-loop-place : goal.invariant-loop-place
invariant-loop-place g l = (length l.due ≡ length l.shelves) × AreOfNodes (length l.shelves) (g.S.VolumeSink.kept l.sink)
