use Rattle.std.proofs.Common.{rules}
use Rattle.lw_stamp.proofs.StampLemmas.{stamp_order}
use Rattle.lw_stamp.proofs.laws.stamps_are_ordered.Goals as goal

pub returns-clause-total : goal.returns-clause-total
returns-clause-total c = stamp_order

pub returns-clause-by_parts : goal.returns-clause-by_parts
returns-clause-by_parts c = search rules
