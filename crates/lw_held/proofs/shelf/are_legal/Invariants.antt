use Rattle.std.proofs.Common.{◌≡◌, ℕ, ◌<◌}
use Rattle.std.specs.Prelude.{Some, slice_get}
use Rattle.lw_held.specs.History.{IsVolume, VolumeContent}
use Rattle.lw_held.proofs.shelf.are_legal.Given as goal

abbrev pub invariant-loop-volume : goal.invariant-loop-volume
invariant-loop-volume l = (i : ℕ) (volume : VolumeContent) → i < l.volume-index → slice_get l.volumes i ≡ Some volume → IsVolume volume
