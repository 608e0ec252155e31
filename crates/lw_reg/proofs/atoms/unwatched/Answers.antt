use Rattle.lw_reg.proofs.WatchLemmas.{no_watches_are}
use Rattle.lw_reg.proofs.atoms.unwatched.Goals as goal

pub returns : goal.returns
returns c = no_watches_are c.new.result c.new.ensures
