use Rattle.lw_link.proofs.Printings.{spelled_size}
use Rattle.lw_link.proofs.laws.printings_are_shortest.Goals as goal

pub returns : goal.returns
returns c = spelled_size
