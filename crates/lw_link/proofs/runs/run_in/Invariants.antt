use Rattle.std.proofs.Common.{length, ◌-◌, ◌≤◌, take}
use Rattle.lw_link.specs.Characters.{Each}
use Rattle.lw_link.specs.inner.Runs.{keeps}
use Rattle.lw_link.proofs.runs.run_in.Given as goal

abbrev pub invariant-loop-count : goal.invariant-loop-count
invariant-loop-count l = (l.count ≤ length l.bytes) × Each (keeps l.state) (take l.count l.bytes)

abbrev pub decreases-loop-count : goal.decreases-loop-count
decreases-loop-count l = length l.bytes - l.count
