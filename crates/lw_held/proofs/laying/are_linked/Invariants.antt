use Rattle.std.proofs.Common.{◌≡◌, ℕ, ◌<◌}
use Rattle.lw_held.specs.Agree.{IsLinked, IsVolumeOf}
use Rattle.lw_held.specs.History.{VolumeContent}
use Rattle.lw_held.proofs.laying.are_linked.Given as goal

-- each volume that was passed is linked, if it begins at the place
abbrev pub invariant-loop-volume : goal.invariant-loop-volume
invariant-loop-volume l =
    (i : ℕ) (volume : VolumeContent) → i < l.volume-index → IsVolumeOf l.node l.volumes i volume → volume.first ≡ l.place → IsLinked l.node l.volumes volume.first volume.opening
