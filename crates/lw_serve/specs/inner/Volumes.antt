-- Volumes that are kept of the nodes of a run.
use Rattle.std.specs.Prelude.{◌≡◌, ◌≤◌, ℕ, List, Some, slice_get}
use Rattle.lw_held.specs.History.{VolumeContent}

-- each volume is of one of so many nodes, which are numbered from 1
abbrev pub AreOfNodes : ℕ → List VolumeContent → Type 0
AreOfNodes count volumes = (i : ℕ) (volume : VolumeContent) → slice_get volumes i ≡ Some volume → (1 ≤ volume.opening.number) × (volume.opening.number ≤ count)
