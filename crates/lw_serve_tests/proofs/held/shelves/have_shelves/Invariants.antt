use Rattle.std.proofs.Common.{◌≡◌, ℕ, ◌<◌}
use Rattle.std.specs.Prelude.{Some, slice_get}
use Rattle.lw_held.specs.declared.shelf.Shelf.{Shelf}
use Rattle.lw_held.specs.History.{VolumeContent}
use Rattle.lw_serve_tests.proofs.held.shelves.have_shelves.Given as goal

-- each volume that was passed has a shelf
abbrev pub invariant-loop-volume : goal.invariant-loop-volume
invariant-loop-volume l = (i : ℕ) (volume : VolumeContent) → i < l.volume-index → slice_get l.volumes i ≡ Some volume → (k : ℕ) × (shelf : Shelf) × (slice_get l.shelves k ≡ Some shelf) × (shelf.number ≡ volume.opening.number)
