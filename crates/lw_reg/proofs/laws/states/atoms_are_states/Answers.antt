use Rattle.lw_reg.proofs.Operations.{all_names, joined_state, marks_state}
use Rattle.lw_reg.proofs.laws.states.atoms_are_states.Goals as goal

pub returns-clause-atoms : goal.returns-clause-atoms
returns-clause-atoms c = marks_state

pub returns-clause-joined : goal.returns-clause-joined
returns-clause-joined c = joined_state

pub returns-clause-named : goal.returns-clause-named
returns-clause-named c = all_names
