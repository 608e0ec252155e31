use Rattle.std.proofs.Common.{◌≡◌, ◌+◌, ◌≤◌, List, length}
use Rattle.lw_reg.specs.declared.path.Path.{Path}
use Rattle.lw_reg.specs.Body.{Watching}
use Rattle.lw_delta.specs.Format.{watch}
use Rattle.lw_delta.proofs.Parts.{Walked}
use Rattle.lw_delta.proofs.watches.check_watches.Given as goal

abbrev pub invariant-loop-entry : goal.invariant-loop-entry
invariant-loop-entry l = (ws : List (Path × Watching)) × Walked (watch l.clock) (λ w. w.0) l.bytes ws l.after l.rest × (l.count ≡ length ws) × (l.count + length l.rest ≤ length l.bytes)

abbrev pub decreases-loop-entry : goal.decreases-loop-entry
decreases-loop-entry l = length l.rest
