-- What is gone from `rest` was appended.
use Rattle.std.proofs.Common.{◌≡◌, ℕ, List, ◌++◌}
use Rattle.std.specs.Io.KnownBytes.{Appends}
use Rattle.lw_serve.specs.Ending.{settled_line}
use Rattle.lw_serve.proofs.ending.write_settled.Given as goal

abbrev pub invariant-loop : goal.invariant-loop
invariant-loop g l = (done : List ℕ) × (settled_line ≡ done ++ l.rest) × Appends (g.O.Write.contents l.initial.writer) (g.O.Write.contents l.writer) done
