use Rattle.std.proofs.Common.{◌≡◌, vec_len}
use Rattle.lw_held.specs.Shelves.{AreNew}
use Rattle.lw_held.proofs.shelf.passes_of.Given as goal

abbrev pub invariant-loop-number : goal.invariant-loop-number
invariant-loop-number l = record { length : vec_len l.passes ≡ l.number; are_new : AreNew l.passes.items }
