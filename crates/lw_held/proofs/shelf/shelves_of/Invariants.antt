use Rattle.std.proofs.Common.{◌≡◌, vec_len}
use Rattle.lw_held.specs.Shelves.{AreInOrder}
use Rattle.lw_held.proofs.shelf.shelves_of.Given as goal

abbrev pub invariant-loop-place : goal.invariant-loop-place
invariant-loop-place l = record { count : vec_len l.shelves ≡ l.place; in_order : AreInOrder l.shelves.items }
