use Rattle.lw_reg.proofs.Addresses.Cuts.{split_once_is}
use Rattle.lw_reg.proofs.addr.reading.cut.Goals as goal

pub returns : goal.returns
returns c = split_once_is _ _ _ c.requires c.split_once.ensures.cases
