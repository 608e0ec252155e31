use Rattle.std.proofs.Common.{ℕ, ◌≤◌, ◌<◌}
use Rattle.lw_held.specs.Agree.{Covers, IsVolumeOf}
use Rattle.lw_held.specs.History.{VolumeContent}
use Rattle.lw_held.proofs.laying.covering.Given as goal

-- no volume that was passed has the place
abbrev pub invariant-loop-index : goal.invariant-loop-index
invariant-loop-index l = (j : ℕ) (volume : VolumeContent) → l.start ≤ j → j < l.index → IsVolumeOf l.node l.volumes j volume → Covers volume l.place → ⊥
