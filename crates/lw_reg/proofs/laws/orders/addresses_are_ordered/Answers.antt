use Rattle.lw_reg.specs.OrderLaws.{addr_parts, addr_order}
use Rattle.lw_reg.proofs.laws.orders.addresses_are_ordered.Goals as goal

pub returns-clause-by_parts : goal.returns-clause-by_parts
returns-clause-by_parts c = addr_parts

pub returns-clause-total : goal.returns-clause-total
returns-clause-total c = addr_order
