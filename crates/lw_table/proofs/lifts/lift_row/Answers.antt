use Rattle.lw_table.proofs.LiftLemmas.{lifted_row}
use Rattle.lw_table.proofs.lifts.lift_row.Goals as goal

pub returns-clause-lifted : goal.returns-clause-lifted
returns-clause-lifted c = lifted_row c.args.row.now c.lift.new.self c.args.number c.stamp-id.result c.stamp-id.ensures c.requires.seen c.lift.ensures.lifted
