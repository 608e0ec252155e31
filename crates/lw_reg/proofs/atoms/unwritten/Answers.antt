use Rattle.lw_reg.proofs.WriteLemmas.{no_attributes_are}
use Rattle.lw_reg.proofs.atoms.unwritten.Goals as goal

pub returns : goal.returns
returns c = no_attributes_are c.new.result c.new.ensures
