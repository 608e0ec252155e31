use Rattle.lw_link.proofs.Spelled.{printing_spells}
use Rattle.lw_link.proofs.Printings.{spelled_good}
use Rattle.lw_link.proofs.laws.printings_spell_their_links.Goals as goal

pub returns-clause-spelled : goal.returns-clause-spelled
returns-clause-spelled c = printing_spells

pub returns-clause-well_formed : goal.returns-clause-well_formed
returns-clause-well_formed c = spelled_good
