use Rattle.lw_reg.specs.OrderLaws.{base_parts, base_order}
use Rattle.lw_reg.proofs.laws.orders.bases_are_ordered.Goals as goal

pub returns-clause-by_parts : goal.returns-clause-by_parts
returns-clause-by_parts c = base_parts

pub returns-clause-total : goal.returns-clause-total
returns-clause-total c = base_order
