use Rattle.uses.proofs.Counts.{new_is_counted, operations_count, merges_count, histories_count}
use Rattle.uses.proofs.laws.nodes_count_what_they_know.Goals as goal

pub returns-clause-new : goal.returns-clause-new
returns-clause-new c = new_is_counted

pub returns-clause-operations : goal.returns-clause-operations
returns-clause-operations c = operations_count

pub returns-clause-merges : goal.returns-clause-merges
returns-clause-merges c = merges_count

pub returns-clause-histories : goal.returns-clause-histories
returns-clause-histories c = histories_count
