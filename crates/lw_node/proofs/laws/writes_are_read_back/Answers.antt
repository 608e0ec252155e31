use Rattle.lw_node.proofs.ReadBack.{registers_read_back, updates_read_back}
use Rattle.lw_node.proofs.laws.writes_are_read_back.Goals as goal

pub returns-clause-registers : goal.returns-clause-registers
returns-clause-registers c = registers_read_back

pub returns-clause-updates : goal.returns-clause-updates
returns-clause-updates c = updates_read_back
