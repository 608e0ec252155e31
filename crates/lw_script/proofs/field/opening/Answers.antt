use Rattle.lw_script.specs.Fields.{◌␣◌, IsShort, IsMoment}
use Rattle.lw_script.specs.inner.Fields.{IsRest}
use Rattle.lw_script.proofs.LineLemmas.{row_none}
use Rattle.lw_script.proofs.field.opening.Goals as goal

pub returns-in_err-node-clause-none : goal.returns-in_err-node-clause-none
returns-in_err-node-clause-none c = row_none IsShort (IsMoment ␣ IsRest) _ _ c.in_err-node.ensures.none
