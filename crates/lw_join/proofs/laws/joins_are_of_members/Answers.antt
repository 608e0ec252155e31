use Rattle.lw_join.proofs.LeastLemmas.{joined_least, joined_members}
use Rattle.lw_join.proofs.laws.joins_are_of_members.Goals as goal

pub returns : goal.returns
returns g c = record { least = joined_least g.met.J.Join.laws; members = joined_members g.met.J.Join.laws }
