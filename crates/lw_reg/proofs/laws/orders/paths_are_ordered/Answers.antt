use Rattle.std.proofs.Common.{refl}
use Rattle.lw_reg.specs.OrderLaws.{same_path, path_order}
use Rattle.lw_reg.proofs.laws.orders.paths_are_ordered.Goals as goal

pub returns-clause-by_numbers : goal.returns-clause-by_numbers
returns-clause-by_numbers c a b = refl

pub returns-clause-total : goal.returns-clause-total
returns-clause-total c = path_order

pub returns-clause-own_numbers : goal.returns-clause-own_numbers
returns-clause-own_numbers c = same_path
