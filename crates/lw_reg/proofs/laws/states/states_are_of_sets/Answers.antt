use Rattle.lw_reg.specs.State.{state_of}
use Rattle.lw_reg.proofs.Same.{members_decide}
use Rattle.lw_reg.proofs.States.{state_laws, state_least, state_union}
use Rattle.lw_reg.proofs.laws.states.states_are_of_sets.Goals as goal

pub returns-clause-exist : goal.returns-clause-exist
returns-clause-exist c = λ ms. (state_of ms, state_least ms)

pub returns-clause-members : goal.returns-clause-members
returns-clause-members c = members_decide

pub returns-clause-unions : goal.returns-clause-unions
returns-clause-unions c = state_union

pub returns-clause-join : goal.returns-clause-join
returns-clause-join c = state_laws
