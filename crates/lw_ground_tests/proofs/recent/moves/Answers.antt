use Rattle.std.proofs.Common.{refl, inr}
use Rattle.lw_ground_tests.proofs.recent.moves.Goals as goal

pub move_to-requires : goal.move_to-requires
move_to-requires c = (c.in_ok-add.ensures.added c.args.last c.args.place).1 (inr (refl, refl))
