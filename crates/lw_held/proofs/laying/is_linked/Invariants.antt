use Rattle.std.proofs.Common.{◌≡◌, ℕ, ◌<◌}
use Rattle.lw_held.specs.Agree.{IsVolumeOf, end_of}
use Rattle.lw_held.specs.History.{VolumeContent}
use Rattle.lw_held.proofs.laying.is_linked.Given as goal

-- each volume that was passed has this closing, if it ends there
abbrev pub invariant-loop-volume : goal.invariant-loop-volume
invariant-loop-volume l = (i : ℕ) (before : VolumeContent) → i < l.volume-index → IsVolumeOf l.node l.volumes i before → end_of before ≡ l.first → l.opening ≡ before.closing
