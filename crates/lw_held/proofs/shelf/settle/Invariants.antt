use Rattle.std.proofs.Common.{◌≡◌, ℕ, ◌<◌}
use Rattle.std.specs.Prelude.{Some, slice_get}
use Rattle.lw_held.specs.Agree.{IsSettledWith}
use Rattle.lw_held.specs.declared.shelf.Shelf.{Shelf}
use Rattle.lw_held.proofs.shelf.settle.Given as goal

abbrev pub invariant-loop-shelf : goal.invariant-loop-shelf
invariant-loop-shelf g l = (i : ℕ) (s : Shelf) → i < l.shelf-index → slice_get l.shelves i ≡ Some s → IsSettledWith s.number l.volumes l.passes
