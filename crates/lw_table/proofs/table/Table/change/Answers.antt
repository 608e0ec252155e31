use Rattle.std.proofs.Common.{rules}
use Rattle.lw_table.proofs.table.Table.change.Goals as goal

pub returns : goal.returns
returns c = search rules
