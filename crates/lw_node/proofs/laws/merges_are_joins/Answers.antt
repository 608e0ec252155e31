use Rattle.lw_node.proofs.LeastOfBoth.{least_is_one, least_commutes, least_associates, least_repeats}
use Rattle.lw_node.proofs.laws.merges_are_joins.Goals as goal

pub returns-clause-one : goal.returns-clause-one
returns-clause-one c = least_is_one

pub returns-clause-commutative : goal.returns-clause-commutative
returns-clause-commutative c = least_commutes

pub returns-clause-associative : goal.returns-clause-associative
returns-clause-associative c = least_associates

pub returns-clause-idempotent : goal.returns-clause-idempotent
returns-clause-idempotent c = least_repeats
