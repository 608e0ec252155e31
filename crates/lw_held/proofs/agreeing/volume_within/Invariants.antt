use Rattle.std.proofs.Common.{ℕ, ◌<◌, ◌≤◌}
use Rattle.lw_held.specs.inner.Looks.{HasPart}
use Rattle.lw_held.proofs.agreeing.volume_within.Given as goal

-- no volume that was passed has the part
abbrev pub invariant-loop-index : goal.invariant-loop-index
invariant-loop-index l = (i : ℕ) → l.start ≤ i → i < l.index → ¬ HasPart l.node l.volumes l.part i
