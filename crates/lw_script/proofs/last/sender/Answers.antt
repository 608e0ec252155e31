use Rattle.lw_script.specs.Fields.{◌␣◌, IsShort, IsMoment, IsAddress}
use Rattle.lw_script.specs.inner.Fields.{IsRest}
use Rattle.lw_script.proofs.LineLemmas.{two_none}
use Rattle.lw_script.proofs.last.sender.Goals as goal

pub returns-in_err-node-clause-none : goal.returns-in_err-node-clause-none
returns-in_err-node-clause-none c = two_none IsShort IsMoment (IsAddress ␣ IsRest) _ _ c.in_err-node.ensures.none
