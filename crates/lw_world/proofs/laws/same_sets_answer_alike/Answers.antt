use Rattle.lw_world.proofs.Deciding.{known_states_are_least, states_decide_answers, same_sets_answer_alike}
use Rattle.lw_world.proofs.laws.same_sets_answer_alike.Goals as goal

pub returns-clause-least : goal.returns-clause-least
returns-clause-least c = known_states_are_least

pub returns-clause-states : goal.returns-clause-states
returns-clause-states c = states_decide_answers

pub returns-clause-alike : goal.returns-clause-alike
returns-clause-alike c = same_sets_answer_alike
