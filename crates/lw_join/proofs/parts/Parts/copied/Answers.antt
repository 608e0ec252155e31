use Rattle.lw_join.specs.PartsLaws.{same_parts}
use Rattle.lw_join.proofs.parts.Parts.copied.Goals as goal

pub returns : goal.returns
returns g c = same_parts _ _ c.in_ok-copied.ensures
