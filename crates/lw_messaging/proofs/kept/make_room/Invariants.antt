use Rattle.std.proofs.Common.{◌≡◌, ◌≤◌, vec_len}
use Rattle.std.specs.Prelude.{sum_by, vec_capacity}
use Rattle.lw_messaging.specs.Kept.{weight_of, without_oldest}
use Rattle.lw_messaging.proofs.kept.make_room.Given as goal

abbrev pub invariant-loop-bodies : goal.invariant-loop-bodies
invariant-loop-bodies l = record {
  left : without_oldest l.weight l.bodies.items ≡ without_oldest l.weight l.fn.bodies.items;
  bytes : sum_by weight_of l.bodies.items ≤ 4194304;
  len : vec_len l.bodies ≤ vec_len l.fn.bodies;
  capacity : vec_capacity l.bodies ≡ vec_capacity l.fn.bodies;
}

abbrev pub decreases-loop-bodies : goal.decreases-loop-bodies
decreases-loop-bodies l = vec_len l.bodies
