use Rattle.lw_reg.proofs.Addresses.{joined_is}
use Rattle.lw_reg.proofs.addr.reading.joined.Goals as goal

pub returns : goal.returns
returns c = joined_is _ _ _ _ c.copy_from_slice.auto.self c.copy_from_slice.ensures.after c.copy_from_slice-2.ensures.after
