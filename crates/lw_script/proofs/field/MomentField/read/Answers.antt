use Rattle.lw_script.proofs.NumberLemmas.{moment_none}
use Rattle.lw_script.proofs.field.MomentField.read.Goals as goal

pub returns-clause-none : goal.returns-clause-none
returns-clause-none c = moment_none _ _ _ c.in_ok-read.ensures.found c.new.ensures.in_range
