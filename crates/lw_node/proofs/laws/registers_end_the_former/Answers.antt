use Rattle.lw_node.proofs.Former.{registers_end_the_former}
use Rattle.lw_node.proofs.laws.registers_end_the_former.Goals as goal

pub returns : goal.returns
returns c = registers_end_the_former
