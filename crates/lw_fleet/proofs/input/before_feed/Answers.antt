use Rattle.std.proofs.Common.{sym}
use Rattle.lw_fleet.proofs.InputLemmas.{found, not_found}
use Rattle.lw_fleet.proofs.input.before_feed.Goals as goal

pub returns-in-Some : goal.returns-in-Some
returns-in-Some c = found _ _ (sym c.in-Some.ensures)

pub returns-in-None : goal.returns-in-None
returns-in-None c = not_found _ (sym c.in-None.ensures)
