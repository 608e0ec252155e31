use Rattle.std.proofs.Common.{◌≡◌, ◌+◌, drop}
use Rattle.std.specs.Prelude.{sum_by}
use Rattle.lw_messaging.specs.Kept.{weight_of}
use Rattle.lw_messaging.proofs.kept.weight_of_all.Given as goal

abbrev pub invariant-loop-body : goal.invariant-loop-body
invariant-loop-body l = l.weight + sum_by weight_of (drop l.body-index l.bodies) ≡ sum_by weight_of l.bodies
