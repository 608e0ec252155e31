use Rattle.lw_table.proofs.TableLemmas.{nothing_filed, nothing_in}
use Rattle.lw_table.proofs.table.Table.new.Goals as goal

pub invariant_of-result : goal.invariant_of-result
invariant_of-result c = (
  c.new.ensures.rows,
  nothing_filed c.new-2.result.keys c.new-2.result.numbers c.new-2.result.due c.new.result c.new.ensures.rows c.new-2.ensures.keys c.new-2.ensures.numbers c.new-2.ensures.due c.new.ensures.none,
)

pub returns : goal.returns
returns c = nothing_in c.new.result c.new.ensures.rows c.new.ensures.none
