use Rattle.lw_node.proofs.Knowing.{new_knows_nothing, operations_are_known, merges_are_known, slots_show_marks}
use Rattle.lw_node.proofs.laws.calls_add_to_what_is_known.Goals as goal

pub returns-clause-new : goal.returns-clause-new
returns-clause-new c = new_knows_nothing

pub returns-clause-operations : goal.returns-clause-operations
returns-clause-operations c = operations_are_known

pub returns-clause-merges : goal.returns-clause-merges
returns-clause-merges c = merges_are_known

pub returns-clause-shown : goal.returns-clause-shown
returns-clause-shown c = slots_show_marks
