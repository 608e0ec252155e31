use Rattle.lw_reg.proofs.Same.{joins_show_both, states_show_sets}
use Rattle.lw_reg.proofs.laws.states.states_show_their_marks.Goals as goal

pub returns-clause-sets : goal.returns-clause-sets
returns-clause-sets c = states_show_sets

pub returns-clause-joins : goal.returns-clause-joins
returns-clause-joins c = joins_show_both
