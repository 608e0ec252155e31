use Rattle.lw_held.proofs.Lawful.{own_order}
use Rattle.lw_held.proofs.laws.own_order.Goals as goal

pub returns : goal.returns
returns c = own_order
