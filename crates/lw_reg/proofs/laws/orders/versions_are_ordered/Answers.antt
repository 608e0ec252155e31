use Rattle.lw_reg.specs.OrderLaws.{version_number, version_order}
use Rattle.lw_reg.proofs.laws.orders.versions_are_ordered.Goals as goal

pub returns-clause-by_number : goal.returns-clause-by_number
returns-clause-by_number c = version_number

pub returns-clause-total : goal.returns-clause-total
returns-clause-total c = version_order
