use Rattle.lw_reg.proofs.Same.{states_decide}
use Rattle.lw_reg.proofs.laws.states.states_decide_what_is_shown.Goals as goal

pub returns : goal.returns
returns c = states_decide
