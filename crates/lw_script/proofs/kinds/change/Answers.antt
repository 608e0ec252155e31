use Rattle.std.proofs.Common.{refl}
use Rattle.lw_script.proofs.LineLemmas.{change_spelled}
use Rattle.lw_script.proofs.kinds.change.Goals as goal

pub returns-clause-found : goal.returns-clause-found
returns-clause-found c = change_spelled _ _ _ _ c.in_ok-node.ensures.found refl c.asked.ensures
